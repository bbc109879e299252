-- `card::text::Text::put_byte_if` meets its contract. Assumes nothing.
use Rattle.field.proofs.Base.{◌∙◌, ◌∷◌, [], refl, ap, arith, add-zero, add-one}
use Rattle.card.specs.Text.{Written}
use lib.Seq.{set_split}
use Rattle.card.proofs.Writing.{appends-put, covers-put}
use Rattle.card.proofs.text.Text.put_byte_if.Goals as goal

pub returns-clause-stays : goal.returns-clause-stays
returns-clause-stays c kept =
    let t = c.self.inside in
    let b = c.args.b in
    let room = ap (λ (w : Written). w.room) c.self.view_is in
    appends-put t.bytes.now (b ∷ []) _ t.used (omega (arith, room, c.requires, c.self.invariant)) (set_split t.bytes.now t.used b (omega (arith, room, c.requires)) ∙ rw (add-one t.used) refl)
    c.args.self.now _ c.self.view_is _ (rw kept refl)

pub returns-clause-covered : goal.returns-clause-covered
returns-clause-covered c left =
    let t = c.self.inside in
    let b = c.args.b in
    let room = ap (λ (w : Written). w.room) c.self.view_is in
    covers-put t.bytes.now _ b t.used (omega (arith, room, c.requires, c.self.invariant)) (set_split t.bytes.now t.used b (omega (arith, room, c.requires)) ∙ rw (add-one t.used) refl)
    c.args.self.now _ c.self.view_is _ (rw left (add-zero t.used))
