-- A trial is a linear system: its entries, and the solver's answers in terms of the codewords that agree with the word outside the places
-- of the trial. Assumes nothing.
use Rattle.field.proofs.Base.{◌≡◌, refl, sym, ap, ◌∙◌, subst, ◌≢◌, Bool, true, false, cond, List, [], ◌∷◌, ◌++◌, map, ℕ, zero, suc, ◌+◌, ◌-◌, ◌≤◌}
use Rattle.field.proofs.Base.{◌<◌, not-suc-le-zero, le_of_suc-le-suc, le_refl, dec_lt, ℕ_discrete, arith, ne_eqb, le-leb, lt-leb, eqb, leb, length}
use Rattle.field.proofs.Base.{get_or, set, take, length-set, length-append, get_or-take, length-take-le, get_or-set_same, get_or-set_other}
use lib.ListN.{length-map, get_or-map, get_or-append}
use lib.Seq.{get_or-append-add}
use Rattle.field.specs.Polynomial.{add}
use Rattle.field.specs.Field.{order, product}
use Rattle.field.specs.Question.{is_width}
use Rattle.field.proofs.Laws.{IsField}
use Rattle.field.proofs.Widths.{field_of}
use Rattle.field.proofs.Evaluation.{five-at, five-cong}
use Rattle.code.specs.declared.erasures.Trial.{Trial}
use Rattle.code.specs.declared.erasures.Correction.{Correction}
use Rattle.code.specs.declared.solver.Solutions.{Solutions}
use Rattle.code.specs.declared.solver.Solutions.TheVariants.{None, One, Several}
use Rattle.code.specs.Word.{at, five}
use Rattle.code.specs.inner.Place.{numbers, column}
use Rattle.code.specs.Erasure.{masked_syndrome}
use Rattle.code.specs.inner.Matrix.{rows, unknowns, columns, entry, column_of, Matrix, Operands, dot, Values, Means}
use Rattle.code.specs.inner.Correction.{fill, places_of, Ready, system_entry, SystemColumns, SystemRow, SystemMatrix, NoneAt, OneAt, SeveralAt, Searched}
use Rattle.code.proofs.Sums.{parity-lt}
use Rattle.code.proofs.Columns.{combine, column-lt}
use Rattle.code.proofs.restoring.Filling.{Each, Solution, fill-agrees, masked-lt, solution-values, solution-codeword, codeword-solution}
use Rattle.code.proofs.restoring.Filling.{codeword-fill}
use Rattle.code.proofs.restoring.Trying.{searched-none, searched-one, searched-several}
use Rattle.code.proofs.solving.LinearSystem.{System, Meets, meets-solves, system-none, system-solved, system-several}

-- ---- five symbols as a row of the solver

-- five symbols, with zeros behind them
pub five-operands : {m : ℕ} (F : IsField m) (f : ℕ → ℕ) → is_width m ≡ true → ((k : ℕ) → k < 5 → f k < order m) → Operands m (five f ++ 0 ∷ 0 ∷ 0 ∷ [])
five-operands {m} F f w small j h = record { width = w; symbol = go j h }
  where
    go : (j : ℕ) → j < columns → get_or (five f ++ 0 ∷ 0 ∷ 0 ∷ []) j 0 < order m
    go zero h = small 0 (omega arith)
    go (suc zero) h = small 1 (omega arith)
    go (suc (suc zero)) h = small 2 (omega arith)
    go (suc (suc (suc zero))) h = small 3 (omega arith)
    go (suc (suc (suc (suc zero)))) h = small 4 (omega arith)
    go (suc (suc (suc (suc (suc zero))))) h = omega (arith, F.one-lt)
    go (suc (suc (suc (suc (suc (suc zero)))))) h = omega (arith, F.one-lt)
    go (suc (suc (suc (suc (suc (suc (suc zero))))))) h = omega (arith, F.one-lt)
    go (suc (suc (suc (suc (suc (suc (suc (suc j)))))))) h = absurd (omega arith)

-- ---- the entries of the system

module _ (m : ℕ) (ls : List ℕ) (b k j : ℕ) where
  -- past the right-hand side
  entry-left : j ≢ 0 → system_entry m ls b k j ≡ cond (leb j (length ls)) (column m (get_or ls (j - 1) 0) k) 0
  entry-left d = ap (λ (t : Bool). cond t b (cond (leb j (length ls)) (column m (get_or ls (j - 1) 0) k) 0)) (ne_eqb j 0 d)

  entry_at : j ≢ 0 → j ≤ length ls → system_entry m ls b k j ≡ column m (get_or ls (j - 1) 0) k
  entry_at d h = entry-left d ∙ ap (λ (t : Bool). cond t (column m (get_or ls (j - 1) 0) k) 0) (le-leb j (length ls) h)

  entry_past : j ≢ 0 → length ls < j → system_entry m ls b k j ≡ 0
  entry_past d h = entry-left d ∙ ap (λ (t : Bool). cond t (column m (get_or ls (j - 1) 0) k) 0) (lt-leb j (length ls) h)

-- what holds of five rows holds of each
pub each_row : (P : ℕ → List ℕ → Type 0) (r0 r1 r2 r3 r4 : List ℕ) → P 0 r0 → P 1 r1 → P 2 r2 → P 3 r3 → P 4 r4
    → (k : ℕ) → k < rows → P k (get_or (r0 ∷ r1 ∷ r2 ∷ r3 ∷ r4 ∷ []) k [])
each_row P r0 r1 r2 r3 r4 p0 p1 p2 p3 p4 zero h = p0
each_row P r0 r1 r2 r3 r4 p0 p1 p2 p3 p4 (suc zero) h = p1
each_row P r0 r1 r2 r3 r4 p0 p1 p2 p3 p4 (suc (suc zero)) h = p2
each_row P r0 r1 r2 r3 r4 p0 p1 p2 p3 p4 (suc (suc (suc zero))) h = p3
each_row P r0 r1 r2 r3 r4 p0 p1 p2 p3 p4 (suc (suc (suc (suc zero)))) h = p4
each_row P r0 r1 r2 r3 r4 p0 p1 p2 p3 p4 (suc (suc (suc (suc (suc k))))) h = absurd (omega arith)

-- column j + 1 of the system of the first n places xs
module _ (m : ℕ) (xs : List ℕ) (n j : ℕ) (l : n ≤ length xs) (b k : ℕ) where
  column-at : j < n → system_entry m (take n xs) b k (suc j) ≡ column m (get_or xs j 0) k
  column-at h =
      let back : suc j - 1 ≡ j = omega arith in
      entry_at m (take n xs) b k (suc j) (omega arith) (omega (arith, length-take-le n xs l))
      ∙ ap (λ (p : ℕ). column m p k) (ap (λ (i : ℕ). get_or (take n xs) i 0) back ∙ get_or-take n xs j 0 h)

  column-past : n ≤ j → system_entry m (take n xs) b k (suc j) ≡ 0
  column-past h = entry_past m (take n xs) b k (suc j) (omega arith) (omega (arith, length-take-le n xs l))

-- the columns of the first i places xs, and with one place more
module _ (m : ℕ) (xs : List ℕ) where
  pub columns-start : SystemColumns m (take 0 xs) (five (λ k. 0) ∷ five (λ k. 0) ∷ five (λ k. 0) ∷ five (λ k. 0) ∷ five (λ k. 0) ∷ [])
  columns-start =
      record {
        wide = refl;
        each = λ w. each_row (λ j c. c ≡ five (λ k. system_entry m [] 0 k (suc j))) _ _ _ _ _ refl refl refl refl refl;
      }

  module _ (i : ℕ) (h : i < length xs) where
    place_other : (j k : ℕ) → j ≢ i → system_entry m (take i xs) 0 k (suc j) ≡ system_entry m (take (i + 1) xs) 0 k (suc j)
    place_other j k d = go (dec_lt j i)
      where
        go : Dec (j < i) → system_entry m (take i xs) 0 k (suc j) ≡ system_entry m (take (i + 1) xs) 0 k (suc j)
        go (yes l) = column-at m xs i j (omega arith) 0 k l ∙ sym (column-at m xs (i + 1) j (omega arith) 0 k (omega arith))
        go (no l) = column-past m xs i j (omega arith) 0 k (omega arith) ∙ sym (column-past m xs (i + 1) j (omega arith) 0 k (omega arith))

    pub columns-on : {a : List (List ℕ)} → SystemColumns m (take i xs) a → i < unknowns → {x : List ℕ} → (is_width m ≡ true → x ≡ five (column m (get_or xs i 0)))
        → SystemColumns m (take (i + 1) xs) (set a i x)
    columns-on {a} s u {x} e = record { wide = length-set a i x ∙ s.wide; each = λ w j l. go w j l (ℕ_discrete j i) }
      where
        go : is_width m ≡ true → (j : ℕ) → j < unknowns → Dec (j ≡ i) → get_or (set a i x) j [] ≡ five (λ k. system_entry m (take (i + 1) xs) 0 k (suc j))
        go w j l (yes r) =
            ap (λ (n : ℕ). get_or (set a i x) n []) r ∙ get_or-set_same a i x [] (omega (arith, s.wide)) ∙ e w
            ∙ ap (λ (n : ℕ). five (column m (get_or xs n 0))) (sym r)
            ∙ five-cong _ _ (λ k b. sym (column-at m xs (i + 1) j (omega arith) 0 k (omega arith)))
        go w j l (no d) = get_or-set_other a i j x [] d ∙ s.each w j l ∙ five-cong _ _ (λ k b. place_other j k d)

-- a right-hand side, row k of the columns, and zeros
pub system-row : {m b k : ℕ} {ls r : List ℕ} {a : List (List ℕ)} → SystemColumns m ls a → k < rows → length ls ≤ unknowns
    → r ≡ b ∷ column_of a k ++ 0 ∷ 0 ∷ [] → SystemRow m ls b k r
system-row {m} {b} {k} {ls} {r} {a} s h few e =
    record {
      wide = ap length e ∙ size;
      entries = λ w j l. ap (λ (u : List ℕ). get_or u j 0) e ∙ go w j l;
    }
  where
    tall : length (column_of a k) ≡ unknowns
    tall = length-map a _ ∙ s.wide

    size : length (b ∷ column_of a k ++ 0 ∷ 0 ∷ []) ≡ columns
    size = simp length-append (omega (arith, tall))

    used : is_width m ≡ true → (j : ℕ) → j < unknowns → get_or (column_of a k ++ 0 ∷ 0 ∷ []) j 0 ≡ system_entry m ls b k (suc j)
    used w j l =
        get_or-append (column_of a k) (0 ∷ 0 ∷ []) 0 j (omega (arith, tall))
        ∙ get_or-map (λ (c : List ℕ). get_or c k 0) a j [] ∙ ap (λ (c : List ℕ). at c k) (s.each w j l)
        ∙ five-at (λ k. system_entry m ls 0 k (suc j)) k h
        ∙ entry-left m ls 0 k (suc j) (omega arith) ∙ sym (entry-left m ls b k (suc j) (omega arith))

    behind : (j : ℕ) → unknowns ≤ j → get_or (column_of a k ++ 0 ∷ 0 ∷ []) j 0 ≡ system_entry m ls b k (suc j)
    behind j l =
        ap (λ (n : ℕ). get_or (column_of a k ++ 0 ∷ 0 ∷ []) n 0) apart
        ∙ get_or-append-add (column_of a k) (0 ∷ 0 ∷ []) (j - unknowns) 0 ∙ zeros (j - unknowns)
        ∙ sym (entry_past m ls b k (suc j) (omega arith) (omega arith))
      where
        apart : j ≡ length (column_of a k) + (j - unknowns)
        apart = omega (arith, tall)

        zeros : (i : ℕ) → ◌≡◌ {A = ℕ} (get_or (0 ∷ 0 ∷ []) i 0) 0
        zeros zero = refl
        zeros (suc zero) = refl
        zeros (suc (suc i)) = refl

    go : is_width m ≡ true → (j : ℕ) → j < columns → get_or (b ∷ column_of a k ++ 0 ∷ 0 ∷ []) j 0 ≡ system_entry m ls b k j
    go w zero l = refl
    go w (suc j) l = pick (dec_lt j unknowns)
      where
        pick : Dec (j < unknowns) → get_or (column_of a k ++ 0 ∷ 0 ∷ []) j 0 ≡ system_entry m ls b k (suc j)
        pick (yes h) = used w j h
        pick (no h) = behind j (omega arith)

-- ---- values at places, as lists

combine-dot : (m : ℕ) (ls zs : List ℕ) (k : ℕ) → combine m ls zs k ≡ dot m (map (λ l. column m l k) ls) zs
unfolding combine
combine-dot m [] zs k = refl
combine-dot m (l ∷ ls) [] k = refl
combine-dot m (l ∷ ls) (z ∷ zs) k = ap (add (product m (column m l k) z)) (combine-dot m ls zs k)

values-each : (q : ℕ) (ls zs : List ℕ) → length zs ≡ length ls → ((j : ℕ) → j < length ls → get_or zs j 0 < q) → Each (λ p z. z < q) ls zs
values-each q [] [] e b = tt
values-each q [] (z ∷ zs) e b = absurd (omega arith)
values-each q (l ∷ ls) [] e b = absurd (omega arith)
values-each q (l ∷ ls) (z ∷ zs) e b = (b 0 (omega arith), values-each q ls zs (omega arith) (λ j h. b (suc j) (omega arith)))

each-size : (q : ℕ) (ls zs : List ℕ) → Each (λ p z. z < q) ls zs → length zs ≡ length ls
each-size q [] [] rs = refl
each-size q [] (z ∷ zs) rs = absurd rs
each-size q (l ∷ ls) [] rs = absurd rs
each-size q (l ∷ ls) (z ∷ zs) rs = ap suc (each-size q ls zs rs.1)

each_at : (R : ℕ → Type 0) (ls zs : List ℕ) → Each (λ p z. R z) ls zs → (j : ℕ) → j < length ls → R (get_or zs j 0)
each_at R [] zs rs j h = absurd (not-suc-le-zero h)
each_at R (l ∷ ls) [] rs j h = absurd rs
each_at R (l ∷ ls) (z ∷ zs) rs zero h = rs.0
each_at R (l ∷ ls) (z ∷ zs) rs (suc j) h = each_at R ls zs rs.1 j (le_of_suc-le-suc h)

get_d-columns : (m k : ℕ) (ls : List ℕ) (j : ℕ) → j < length ls → get_or (map (λ l. column m l k) ls) j 0 ≡ column m (get_or ls j 0) k
get_d-columns m k [] j h = absurd (not-suc-le-zero h)
get_d-columns m k (l ∷ ls) zero h = refl
get_d-columns m k (l ∷ ls) (suc j) h = get_d-columns m k ls j (le_of_suc-le-suc h)

-- ---- the system of a trial and the solver's answers

-- the matrix a is that of the trial t of the word w
module _ (m : ℕ) (t : Trial) (few : t.count ≤ unknowns) (a : List (List ℕ)) (A : SystemMatrix m (numbers t.places) t.count t.sums a)
    (w : List ℕ) (R : Ready m w t) where
  F : IsField m
  F = field_of m R.width

  size : length (places_of t) ≡ t.count
  size = length-take-le t.count (numbers t.places) (omega (arith, A.room))

  entries : (k j : ℕ) → k < rows → j < columns → entry a k j ≡ system_entry m (places_of t) (at t.sums k) k j
  entries k j h l = (A.each k h).entries R.width j l

  sum_lt : (k : ℕ) → k < rows → masked_syndrome m (places_of t) w k < order m
  sum_lt k h = F.add-lt _ _ (masked-lt F R.lent k (omega (arith, F.one-lt))) (parity-lt F _ k)

  sum-at : (k : ℕ) → k < rows → at t.sums k ≡ masked_syndrome m (places_of t) w k
  sum-at k h = ap (λ (u : List ℕ). at u k) R.sums ∙ five-at (masked_syndrome m (places_of t) w) k h

  entry_lt : (b k j : ℕ) → b < order m → system_entry m (places_of t) b k j < order m
  entry_lt b k j h = go (eqb j 0) (leb j (length (places_of t)))
    where
      go : (s t' : Bool) → cond s b (cond t' (column m (get_or (places_of t) (j - 1) 0) k) 0) < order m
      go true t' = h
      go false true = column-lt F (get_or (places_of t) (j - 1) 0) k
      go false false = omega (arith, F.one-lt)

  matrix : Matrix m a
  matrix = record {
    tall = A.tall;
    wide = λ k h. (A.each k h).wide;
    symbols = λ k j h l. subst (λ (x : ℕ). x < order m) (sym (entries k j h l))
        (entry_lt (at t.sums k) k j (subst (λ (x : ℕ). x < order m) (sym (sum-at k h)) (sum_lt k h)));
  }

  columns_of : ℕ → List ℕ
  columns_of k = map (λ l. column m l k) (places_of t)

  system : System a t.count (masked_syndrome m (places_of t) w) columns_of
  unfolding columns_of
  system = record {
    right = λ k h. entries k 0 h (omega arith) ∙ sum-at k h;
    left = λ k j h l.
        entries k (j + 1) h (omega arith)
        ∙ entry_at m (places_of t) (at t.sums k) k (j + 1) (λ e. omega arith) (omega (arith, size))
        ∙ ap (λ (i : ℕ). column m (get_or (places_of t) i 0) k) (back j)
        ∙ sym (get_d-columns m k (places_of t) j (omega (arith, size)));
  }
    where
      back : (j : ℕ) → j + 1 - 1 ≡ j
      back j = omega arith

  solution-meets : (zs : List ℕ) → Solution m w (places_of t) zs → Values m t.count zs × Meets m (masked_syndrome m (places_of t) w) columns_of zs
  unfolding columns_of
  solution-meets zs S = (
    record {
      size = each-size (order m) (places_of t) zs S.values ∙ size;
      symbols = λ j h. each_at (λ z. z < order m) (places_of t) zs S.values j (omega (arith, size));
    },
    λ k h. sym (combine-dot m (places_of t) zs k) ∙ S.rows k h,
  )

  values-small : (zs : List ℕ) → Values m t.count zs → Each (λ p z. z < order m) (places_of t) zs
  values-small zs D = values-each (order m) (places_of t) zs (D.size ∙ sym size) (λ j h. D.symbols j (omega (arith, size)))

  meets-solution : (zs : List ℕ) → Values m t.count zs → Meets m (masked_syndrome m (places_of t) w) columns_of zs → Solution m w (places_of t) zs
  unfolding columns_of
  meets-solution zs D S = record { values = values-small zs D; rows = λ k h. combine-dot m (places_of t) zs k ∙ S k h }

  -- no solution: no codeword agrees outside the places
  trial-none : Means m None a t.count → NoneAt m w (places_of t)
  trial-none N c C G =
      let S = solution-meets (map (at c) (places_of t)) (codeword-solution F R.lent C G) in
      system-none m F a t.count (masked_syndrome m (places_of t) w) columns_of system N (map (at c) (places_of t)) S.0 S.1

  -- one solution: the word filled with it is the one codeword that agrees outside the places
  trial-one : (vs : List ℕ) → Means m (One vs) a t.count → OneAt m w (places_of t) (take t.count vs)
  trial-one vs O = record {
    codeword = solution-codeword F R.lent
        (meets-solution zs O.values (system-solved m F a t.count (masked_syndrome m (places_of t) w) columns_of system vs O));
    agrees = fill-agrees m w (places_of t) zs;
    only = λ c C G. (let S = solution-meets (map (at c) (places_of t)) (codeword-solution F R.lent C G) in
        sym (codeword-fill F R.lent C G)
        ∙ ap (fill w (places_of t)) (O.only (map (at c) (places_of t)) S.0
        (meets-solves m F a t.count (masked_syndrome m (places_of t) w) columns_of system (map (at c) (places_of t)) S.0 S.1)));
  }
    where
      zs : List ℕ
      zs = take t.count vs

  -- several solutions: the word filled with two of them is two codewords
  trial-several : Means m Several a t.count → SeveralAt m w (places_of t)
  trial-several T = record {
    first = fill w (places_of t) T.first;
    second = fill w (places_of t) T.second;
    first-codeword = solution-codeword F R.lent both.0;
    second-codeword = solution-codeword F R.lent both.1;
    first-agrees = fill-agrees m w (places_of t) T.first;
    second-agrees = fill-agrees m w (places_of t) T.second;
    different = λ e. T.different
        (sym (solution-values R.lent both.0) ∙ ap (λ (c : List ℕ). map (at c) (places_of t)) e ∙ solution-values R.lent both.1);
  }
    where
      both : Solution m w (places_of t) T.first × Solution m w (places_of t) T.second
      both =
          let S = system-several m F a t.count (masked_syndrome m (places_of t) w) columns_of system T in
          (meets-solution T.first T.first-values S.0, meets-solution T.second T.second-values S.1)

  -- the solver's answers, as those of a search with no extra places
  abbrev Solved : Solutions (List ℕ) → Solutions Correction → Type 0
  Solved x y = (is_width m ≡ true → Matrix m a → Means m x a t.count) → Searched m w (places_of t) 0 (NoneAt m w (places_of t)) y

  pub solved-none : Solved None None
  solved-none S = searched-none (trial-none (S R.width matrix))

  pub solved-one : (vs : List ℕ) → Solved (One vs) (One (record { count = t.count; places = t.places; values = vs }))
  solved-one vs S =
      let O = trial-one vs (S R.width matrix) in
      searched-one (record {
        room = few;
        below = R.lent.below;
        distinct = R.lent.distinct;
        codeword = O.codeword;
        extra = [];
        few = le_refl 0;
        agrees = O.agrees;
        only = O.only;
      })

  pub solved-several : Solved Several Several
  solved-several S = searched-several (record { extra = []; few = le_refl 0; two = trial-several (S R.width matrix) })
