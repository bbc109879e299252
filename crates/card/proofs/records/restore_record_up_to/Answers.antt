-- `card::records::restore_record_up_to` meets its contract. Assumes nothing.
use Rattle.std.proofs.Common.{Ok, Err}
use Rattle.field.proofs.Base.{rules, ◌≡◌, refl, sym, ◌∙◌, arith}
use Rattle.card.specs.Record.{reach_up_to}
use Rattle.card.proofs.Layouts.{asked}
use Rattle.card.proofs.Recording.{restores-refused, restores-up-to, reach-counted}
use Rattle.card.proofs.records.restore_record_up_to.Goals as goal

pub bounds-bytes-0 : goal.bounds-bytes-0
bounds-bytes-0 c =
    let v = c.ask_record in
    let p : v.result ≡ (Ok tt) = search rules in
    omega (arith, (asked c.args.bytes.now (sym v.ensures ∙ p)).size)

pub bounds-bytes-1 : goal.bounds-bytes-1
bounds-bytes-1 c =
    let v = c.ask_record in
    let p : v.result ≡ (Ok tt) = search rules in
    omega (arith, (asked c.args.bytes.now (sym v.ensures ∙ p)).size)

pub returns : goal.returns
returns c =
    let v = c.ask_record in
    let p : v.result ≡ (Ok tt) = search rules in
    let r = c.args.bytes.now in
    let n = c.args.most in
    restores-up-to n r _ (reach-counted n r (asked r (sym v.ensures ∙ p)) _ c.reach_up_to-reach.ensures) _ _ c.restore_asked.ensures

pub returns-in_err-ask_record : goal.returns-in_err-ask_record
returns-in_err-ask_record c =
    let v = c.ask_record in
    let r = c.args.bytes.now in
    let n = c.args.most in
    let p : c.from_residual.result ≡ Err c.in_err-ask_record.field-0.0 = search rules in
    restores-up-to n r (reach_up_to n r) refl _ _ (restores-refused r (reach_up_to n r) v.result _ v.ensures (search rules) _ p _ refl)
