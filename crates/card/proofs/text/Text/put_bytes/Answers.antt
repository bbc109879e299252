-- `card::text::Text::put_bytes` meets its contract. Assumes nothing.
use Rattle.field.proofs.Base.{◌∙◌, ℕ, List, ◌++◌, refl, sym, ap, ap₂, arith, length, take, drop}
use Rattle.card.specs.Text.{Written}
use Rattle.card.proofs.Writing.{appends-put, rest_both}
use Rattle.card.proofs.text.Text.put_bytes.Goals as goal

pub returns : goal.returns
returns c =
    let t = c.self.inside in
    let room = ap (λ (w : Written). w.room) c.self.view_is in
    appends-put t.bytes.now c.args.text.now _ t.used (omega (arith, room, c.requires, c.self.invariant))
    (ap₂ (λ (x r : List ℕ). take t.used t.bytes.now ++ (x ++ r)) c.copy_from_slice.ensures.after
    (ap (λ (k : ℕ). drop k (drop t.used t.bytes.now)) (omega arith) ∙ sym (rest_both t.used (length c.args.text.now) t.bytes.now)))
    c.args.self.now _ c.self.view_is _ refl
