-- Times and counts, column by column. Assumes nothing.
use Rattle.field.proofs.Base.{◌≡◌, refl, sym, ap, ◌∙◌, List, [], ◌∷◌, ◌++◌, append_assoc, append-nil, ℕ, ◌+◌, ◌<◌, add-one, length, get_or, take}
use lib.Seq.{take-suc}
use Rattle.card.specs.Listing.{decimal}
use Rattle.card.proofs.Writing.{appending}
use Rattle.report.specs.Quarter.{clock_text}
use Rattle.card_csv.specs.Text.{separator, time_columns, count_columns}

-- ---- times

pub times_none : time_columns 0 ≡ []
unfolding time_columns
times_none = refl

pub times_more : (n : ℕ) → time_columns (n + 1) ≡ time_columns n ++ (separator ∷ clock_text n)
unfolding time_columns
times_more n = rw (add-one n) refl

pub ruleset times_steps = (appending, times_none, times_more)

-- ---- counts

pub columns-append : (xs ys : List ℕ) → count_columns (xs ++ ys) ≡ count_columns xs ++ count_columns ys
unfolding count_columns
columns-append [] ys = refl
columns-append (x ∷ xs) ys =
    ap (λ (l : List ℕ). separator ∷ decimal x ++ l) (columns-append xs ys)
    ∙ ap (λ (l : List ℕ). separator ∷ l) (sym (append_assoc (decimal x) (count_columns xs) (count_columns ys)))

columns-one : (x : ℕ) → count_columns (x ∷ []) ≡ separator ∷ decimal x
unfolding count_columns
columns-one x = ap (λ (l : List ℕ). separator ∷ l) (append-nil (decimal x))

pub columns-none : count_columns [] ≡ []
unfolding count_columns
columns-none = refl

pub columns-more : (xs : List ℕ) (n : ℕ) → n < length xs
    → count_columns (take (n + 1) xs) ≡ count_columns (take n xs) ++ (separator ∷ decimal (get_or xs n 0))
columns-more xs n h =
    rw (add-one n, take-suc xs n 0)
    (columns-append (take n xs) (get_or xs n 0 ∷ []) ∙ ap (λ (l : List ℕ). count_columns (take n xs) ++ l) (columns-one (get_or xs n 0)))

pub ruleset columns_steps = (appending, columns-none, columns-more)
