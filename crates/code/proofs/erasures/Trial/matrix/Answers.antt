-- `code::erasures::Trial::matrix` meets its contract. Assumes nothing.
use Rattle.field.proofs.Base.{rules, ◌≡◌, refl, ◌∙◌, subst, List, ℕ, ◌≤◌, arith, length, take, length-take-le}
use Rattle.code.specs.Word.{at}
use Rattle.code.specs.inner.Place.{numbers}
use Rattle.code.specs.inner.Matrix.{unknowns}
use Rattle.code.specs.inner.Correction.{SystemColumns, SystemRow}
use Rattle.code.proofs.Places.{numbers-length, numbers-take}
use Rattle.code.proofs.restoring.Correcting.{each_row, system-row}
use Rattle.code.proofs.erasures.Trial.matrix.Goals as goal

pub returns : goal.returns
returns c =
    let a = c.args in
    let ps : List ℕ = numbers a.self.places in
    let s = subst (λ (ls : List ℕ). SystemColumns a.width ls c.columns_of-columns.result) (numbers-take a.self.count a.self.places) c.columns_of-columns.ensures in
    let wide : length a.self.places ≡ unknowns = search rules in
    let room = numbers-length a.self.places ∙ wide in
    let few : length (take a.self.count ps) ≤ unknowns = omega (arith, room, c.requires, length-take-le a.self.count ps (omega (arith, room, c.requires))) in
    record {
      room = room;
      tall = refl;
      each = each_row (λ k row. SystemRow a.width (take a.self.count ps) (at a.self.sums k) k row) _ _ _ _ _
          (system-row s (omega arith) few c.row_at.ensures) (system-row s (omega arith) few c.row_at-2.ensures)
          (system-row s (omega arith) few c.row_at-3.ensures) (system-row s (omega arith) few c.row_at-4.ensures)
          (system-row s (omega arith) few c.row_at-5.ensures);
    }
