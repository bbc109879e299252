-- `card::text::Text::put_byte` meets its contract. Assumes nothing.
use Rattle.field.proofs.Base.{◌∙◌, ◌∷◌, [], refl, ap, arith, add-one}
use Rattle.card.specs.Text.{Written}
use lib.Seq.{set_split}
use Rattle.card.proofs.Writing.{appends-put}
use Rattle.card.proofs.text.Text.put_byte.Goals as goal

pub returns : goal.returns
returns c =
    let t = c.self.inside in
    let b = c.args.b in
    let room = ap (λ (w : Written). w.room) c.self.view_is in
    appends-put t.bytes.now (b ∷ []) _ t.used (omega (arith, room, c.requires, c.self.invariant)) (set_split t.bytes.now t.used b (omega (arith, room, c.requires)) ∙ rw (add-one t.used) refl)
    c.args.self.now _ c.self.view_is _ refl
