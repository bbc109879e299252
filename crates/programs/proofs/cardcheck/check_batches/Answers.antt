-- `programs::cardcheck::check_batches` meets its contract. Assumes nothing.
use Rattle.field.proofs.Base.{rules, refl, ap, ◌∙◌, arith}
use Rattle.card.specs.Text.{Written}
use Rattle.programs.specs.declared.input.Input.{Input}
use Rattle.programs.proofs.Batches.{asked-yes}
use Rattle.programs.proofs.Checking.{fine-start, fine-readable, searches-none, searches-some, fine_more, same_out}
use Rattle.programs.proofs.cardcheck.check_batches.Goals as goal

pub loop-i-init : goal.loop-i-init
loop-i-init c =
    let e = c.new-input.ensures in
    (refl, ap (λ (x : Input). x.going) e, fine-start _ (ap (λ (x : Input). x.read) e) (ap (λ (x : Input). x.failed) e))

pub check_next-next-requires : goal.check_next-next-requires
check_next-next-requires c =
    let t = c.loop-i in
    (fine-readable t.i t.input t.invariant.2 t.invariant.1 (omega arith), omega arith, omega (arith, ap (λ (w : Written). w.room) t.invariant.0, c.requires.1))

pub loop-i-preserved : goal.loop-i-preserved
loop-i-preserved c =
    let t = c.loop-i in
    let found = c.check_next-next.ensures in
    let going = asked-yes c.going.ensures (search rules) in (
      same_out t.i t.input t.invariant.2 t.invariant.1 found (search rules) ∙ t.invariant.0,
      going,
      fine_more t.i t.input t.invariant.2 t.invariant.1 found (search rules) going,
    )

pub returns : goal.returns
returns c =
    let t = c.loop-i in
    searches-none t.i t.input t.invariant.2 t.invariant.1 t.out
    (ap (λ (w : Written). w.bytes) t.invariant.0 ∙ c.requires.0) (ap (λ (w : Written). w.room) t.invariant.0 ∙ c.requires.1)

pub returns-then-next : goal.returns-then-next
returns-then-next c =
    let t = c.loop-i in
    searches-some t.i t.input t.invariant.2 t.invariant.1 c.check_next-next.ensures
    (ap (λ (w : Written). w.bytes) t.invariant.0 ∙ c.requires.0) (ap (λ (w : Written). w.room) t.invariant.0 ∙ c.requires.1)
