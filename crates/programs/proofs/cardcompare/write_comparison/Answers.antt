-- `programs::cardcompare::write_comparison` meets its contract. Assumes nothing.
use Rattle.field.proofs.Base.{ap, arith}
use Rattle.programs.specs.declared.output.Output.{Output}
use Rattle.programs.proofs.Comparing.{writes-accepted}
use Rattle.programs.proofs.Streaming.{first_part}
use Rattle.programs.proofs.cardcompare.write_comparison.Goals as goal

pub print_part-requires : goal.print_part-requires
print_part-requires c = first_part _ _ c.new.ensures (grind arith)

pub returns : goal.returns
returns c =
    let none = ap (λ (p : Output). p.written) c.new.ensures in
    writes-accepted c.requires.2 c.print_part.result (λ t. grind (arith, c.print_part.ensures t, none))
