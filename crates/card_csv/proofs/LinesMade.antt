-- Laws of the making of a card from a text: lines behind other lines, and no line behind a refused one. Assumes nothing.
use Rattle.field.proofs.Base.{◌≡◌, refl, sym, ap, ap₂, ◌∙◌, false, List, [], ◌∷◌, ◌++◌, append_assoc, ℕ}
use Rattle.card_csv.specs.declared.TextState.{TextState}
use Rattle.card_csv.specs.Making.{is_fine, line_read, line_made, lines_read, lines_made}

-- ---- lines behind other lines

pub read-on : (s : TextState) (a b : List (List ℕ)) → lines_read s (a ++ b) ≡ lines_read (lines_read s a) b
unfolding lines_read
read-on s [] b = refl
read-on s (l ∷ a) b = read-on (line_read s l) a b

pub made-on : (s : TextState) (a b : List (List ℕ)) → lines_made s (a ++ b) ≡ lines_made s a ++ lines_made (lines_read s a) b
unfolding lines_read lines_made
made-on s [] b = refl
made-on s (l ∷ a) b =
    ap (λ (xs : List ℕ). line_made s l ++ xs) (made-on (line_read s l) a b)
    ∙ sym (append_assoc (line_made s l) (lines_made (line_read s l) a) (lines_made (lines_read (line_read s l) a) b))

-- ---- behind a refused line

module _ (s : TextState) (no : is_fine s.verdict ≡ false) where
  line_stays : (line : List ℕ) → line_read s line ≡ s
  unfolding line_read
  line_stays line = rw no

  none_made : (line : List ℕ) → line_made s line ≡ []
  unfolding line_made
  none_made line = rw no

  pub read_stays : (ls : List (List ℕ)) → lines_read s ls ≡ s
  unfolding lines_read
  read_stays [] = refl
  read_stays (l ∷ ls) = ap (λ (u : TextState). lines_read u ls) (line_stays l) ∙ read_stays ls

  pub made-stays : (ls : List (List ℕ)) → lines_made s ls ≡ []
  unfolding lines_made
  made-stays [] = refl
  made-stays (l ∷ ls) = ap₂ (λ (xs : List ℕ) (u : TextState). xs ++ lines_made u ls) (none_made l) (line_stays l) ∙ made-stays ls
