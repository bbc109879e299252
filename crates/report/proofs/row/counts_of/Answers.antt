-- `report::row::counts_of` meets its contract. Assumes nothing.
use Rattle.field.proofs.Base.{rules, ◌≡◌, sym, ap, ◌∙◌, ℕ}
use Rattle.std.proofs.Common.{Option}
use Rattle.std.proofs.lemmas.Iterator.{YieldsList-from_slice}
use Rattle.std.proofs.lemmas.Iterator.Adapters.{option_map_id}
use Rattle.std.proofs.lemmas.Iterator.Consumers.{YieldsList-from_copied, max_from_yields_List}
use Rattle.std.specs.Prelude.{sum, count_by, max, ◌==◌}
use Rattle.std.specs.List.{reduce}
use Rattle.std.specs.Option.{unwrap_or}
use Rattle.report.proofs.Comparing.{occurs-counted}
use Rattle.report.proofs.Counting.{starts-summed, highest-picked}
use Rattle.report.specs.Window.{counts_of}
use Rattle.report.proofs.row.counts_of.Goals as goal

pub returns : goal.returns
unfolding counts_of
returns c =
    let xs = c.args.xs.now in
    let s : c.sum.result ≡ sum xs = search rules in
    let f : c.count.result ≡ count_by (λ x. x == 127) xs = search rules in
    let m : c.max.result ≡ reduce max xs
    = sym (option_map_id _) ∙ max_from_yields_List _ _ c.max.ensures.ran (YieldsList-from_copied (YieldsList-from_slice xs cc)) in
    let es = s ∙ starts-summed xs in
    let ef = f ∙ occurs-counted 127 xs in
    let em = c.from.ensures ∙ c.unwrap_or.ensures ∙ ap (λ (r : Option ℕ). unwrap_or r 0) m ∙ highest-picked xs in
    cc
