-- `code::word::masked` meets its contract. Assumes nothing.
use Rattle.field.proofs.Base.{◌≡◌, ap, ◌∙◌, List, ℕ, ◌<◌, lit<}
use Rattle.field.specs.Polynomial.{add}
use Rattle.field.specs.Field.{product}
use Rattle.field.proofs.Bytes.{xor-add}
use Rattle.field.proofs.Evaluation.{five-at, five-of}
use Rattle.code.specs.Word.{checks, at}
use Rattle.code.specs.inner.Place.{column}
use Rattle.code.proofs.word.masked.Goals as goal

pub returns : goal.returns
returns c =
    λ w h.
    (let a = c.args in
    let m = a.width in
    let f : ℕ → ℕ = λ k. product m (column m a.p.0 k) a.x in
    let s : (k : ℕ) → k < checks → at c.column_times-c.result k ≡ f k = λ k l. ap (λ (u : List ℕ). at u k) (c.column_times-c.ensures w h) ∙ five-at f k l in
    five-of (λ k. add (at a.sums k) (f k)) _ _ _ _ _
    (xor-add _ _ ∙ ap (add _) (s 0 (lit< tt)))
    (xor-add _ _ ∙ ap (add _) (s 1 (lit< tt)))
    (xor-add _ _ ∙ ap (add _) (s 2 (lit< tt)))
    (xor-add _ _ ∙ ap (add _) (s 3 (lit< tt)))
    (xor-add _ _ ∙ ap (add _) (s 4 (lit< tt))))
