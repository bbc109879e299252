-- The lists of codewords and of near codewords: which words are in them, that none is in them twice, and what restoration finds in them.
-- Assumes nothing.
use Rattle.field.proofs.Base.{◌≡◌, refl, sym, ap, ap₂, ◌∙◌, subst, ◌≢◌, ◌⊎◌, inl, inr, ⊎_elim, Bool, true, false, cond, List, [], ◌∷◌, ◌++◌, map, ℕ}
use Rattle.field.proofs.Base.{zero, suc, ◌<◌, le_of_suc-le-suc, not-suc-le-zero, ℕ_discrete, arith, le-leb, leb-true, leb, length, drop}
use mathlib.Core.Logic.{◌↔◌}
use mathlib.Core.List.Memᴰ
use mathlib.Core.List.{Memᴰ}
use Rattle.field.specs.Field.{order}
use Rattle.field.proofs.Laws.{IsField}
use Rattle.code.specs.Word.{items, at, Codeword, encode, data_of}
use Rattle.code.specs.Erasure.{changes}
use Rattle.code.specs.Near.{prefixed, tuples, codewords, keep, Near, nearby, none, one, several, found, restoration}
use Rattle.code.proofs.Questions.{both_ways}
use Rattle.code.proofs.calls.Encoding.{encode-codeword, codeword-encode, codeword-data}

-- the word is in the list
abbrev pub In : List ℕ → List (List ℕ) → Type 0
In x xs = Memᴰ x xs

-- no word is in the list twice
abbrev pub NoDup : List (List ℕ) → Type 0
NoDup [] = Unit {0}
NoDup (x ∷ xs) = (In x xs → ⊥) × NoDup xs

nodup_append : (xs ys : List (List ℕ)) → NoDup xs → NoDup ys → ((x : List ℕ) → In x xs → In x ys → ⊥) → NoDup (xs ++ ys)
nodup_append [] ys h k apart = k
nodup_append (x ∷ xs) ys h k apart = (
  λ i. ⊎_elim h.0 (apart x (Memᴰ.head refl)) (Memᴰ.append_cases xs i),
  nodup_append xs ys h.1 k (λ y i j. apart y (Memᴰ.tail i) j),
)

nodup-map : (f : List ℕ → List ℕ) → ((x y : List ℕ) → f x ≡ f y → x ≡ y) → (xs : List (List ℕ)) → NoDup xs → NoDup (map f xs)
nodup-map f inj [] h = tt
nodup-map f inj (x ∷ xs) h =
    (λ i. let r = Memᴰ.of_map f xs i in h.0 (Memᴰ.cast (inj x r.0 (sym r.2)) r.1), nodup-map f inj xs h.1)

-- ---- the words that pass a test

module _ (f : List ℕ → Bool) where
  keep-in : (xs : List (List ℕ)) {c : List ℕ} → In c xs → f c ≡ true → In c (keep f xs)
  unfolding keep
  keep-in [] i t = absurd (Memᴰ.not-nil i)
  keep-in (x ∷ xs) {c} i t = go (f x) refl (Memᴰ.cases_cons i) (λ j. keep-in xs j t)
    where
      go : (b : Bool) → f x ≡ b → (c ≡ x) ⊎ In c xs → (In c xs → In c (keep f xs)) → In c (cond b (x ∷ keep f xs) (keep f xs))
      go true e (inl p) ih = Memᴰ.head p
      go true e (inr j) ih = Memᴰ.tail (ih j)
      go false e (inl p) ih = absurd (both_ways (sym (ap f p) ∙ t) e)
      go false e (inr j) ih = ih j

  keep_out : (xs : List (List ℕ)) {c : List ℕ} → In c (keep f xs) → In c xs × (f c ≡ true)
  unfolding keep
  keep_out [] i = absurd (Memᴰ.not-nil i)
  keep_out (x ∷ xs) {c} i = go (f x) refl i (λ j. keep_out xs j)
    where
      go : (b : Bool) → f x ≡ b → In c (cond b (x ∷ keep f xs) (keep f xs)) → (In c (keep f xs) → In c xs × (f c ≡ true))
          → In c (x ∷ xs) × (f c ≡ true)
      go true e j ih =
          ⊎_elim (λ p. (Memᴰ.head p, ap f p ∙ e)) (λ k. let r = ih k in (Memᴰ.tail r.0, r.1)) (Memᴰ.cases_cons j)
      go false e j ih = let r = ih j in (Memᴰ.tail r.0, r.1)

  keep-nodup : (xs : List (List ℕ)) → NoDup xs → NoDup (keep f xs)
  unfolding keep
  keep-nodup [] h = tt
  keep-nodup (x ∷ xs) h = go (f x) (keep-nodup xs h.1)
    where
      go : (b : Bool) → NoDup (keep f xs) → NoDup (cond b (x ∷ keep f xs) (keep f xs))
      go true k = (λ i. h.0 (keep_out xs i).0, k)
      go false k = k

-- two tests that agree keep the same
pub keep-cong : (f g : List ℕ → Bool) → ((c : List ℕ) → f c ≡ g c) → (xs : List (List ℕ)) → keep f xs ≡ keep g xs
unfolding keep
keep-cong f g e [] = refl
keep-cong f g e (x ∷ xs) = ap₂ (λ (b : Bool) (ys : List (List ℕ)). cond b (x ∷ ys) ys) (e x) (keep-cong f g e xs)

-- ---- all lists of n numbers below q

prefixed-in : (q : ℕ) (xss : List (List ℕ)) (x : ℕ) (xs : List ℕ) → x < q → In xs xss → In (x ∷ xs) (prefixed q xss)
unfolding prefixed
prefixed-in zero xss x xs l i = absurd (not-suc-le-zero l)
prefixed-in (suc q) xss x xs l i = go (ℕ_discrete x q) (λ k. prefixed-in q xss x xs k i)
  where
    go : Dec (x ≡ q) → (x < q → In (x ∷ xs) (prefixed q xss)) → In (x ∷ xs) (map (λ ys. q ∷ ys) xss ++ prefixed q xss)
    go (yes e) ih = Memᴰ.append_left (prefixed q xss) (Memᴰ.cast (ap (λ (n : ℕ). n ∷ xs) e) (Memᴰ.map (λ (ys : List ℕ). q ∷ ys) i))
    go (no n) ih = Memᴰ.append_right (map (λ ys. q ∷ ys) xss) (ih (omega arith))

prefixed-out : (q : ℕ) (xss : List (List ℕ)) {ys : List ℕ} → In ys (prefixed q xss) → (x : ℕ) × (xs : List ℕ) × (x < q) × In xs xss × (x ∷ xs ≡ ys)
unfolding prefixed
prefixed-out zero xss i = absurd (Memᴰ.not-nil i)
prefixed-out (suc q) xss i =
    ⊎_elim (λ j. let r = Memᴰ.of_map (λ (xs : List ℕ). q ∷ xs) xss j in (q, r.0, omega arith, r.1, r.2))
    (λ j. let r = prefixed-out q xss j in (r.0, r.1, omega (arith, r.2), r.3, r.4))
    (Memᴰ.append_cases (map (λ xs. q ∷ xs) xss) i)

prefixed-nodup : (q : ℕ) (xss : List (List ℕ)) → NoDup xss → NoDup (prefixed q xss)
unfolding prefixed
prefixed-nodup zero xss h = tt
prefixed-nodup (suc q) xss h =
    nodup_append (map (λ xs. q ∷ xs) xss) (prefixed q xss)
    (nodup-map (λ xs. q ∷ xs) (λ x y e. ap (drop 1) e) xss h) (prefixed-nodup q xss h)
    (λ ys i j.
    let r = Memᴰ.of_map (λ (xs : List ℕ). q ∷ xs) xss i in
    let s = prefixed-out q xss j in
    let e = ap (λ (zs : List ℕ). at zs 0) (r.2 ∙ sym s.4) in
    omega (arith, s.2, e))

tuples-in : (q n : ℕ) (xs : List ℕ) → length xs ≡ n → ((i : ℕ) → i < n → at xs i < q) → In xs (tuples q n)
unfolding tuples
tuples-in q zero [] l b = Memᴰ.head refl
tuples-in q zero (x ∷ xs) l b = absurd (omega arith)
tuples-in q (suc n) [] l b = absurd (omega arith)
tuples-in q (suc n) (x ∷ xs) l b =
    prefixed-in q (tuples q n) x xs (b zero (omega arith)) (tuples-in q n xs (omega arith) (λ i h. b (suc i) (omega arith)))

tuples-out : (q n : ℕ) (xs : List ℕ) → In xs (tuples q n) → (length xs ≡ n) × ((i : ℕ) → i < n → at xs i < q)
unfolding tuples
tuples-out q zero xs i = (ap length (Memᴰ.eq_of_singleton i), λ k h. absurd (not-suc-le-zero h))
tuples-out q (suc n) xs i =
    let r = prefixed-out q (tuples q n) i in
    let ih = tuples-out q n r.1 r.3 in (
      subst (λ (ys : List ℕ). length ys ≡ suc n) r.4 (ap suc ih.0),
      subst (λ (ys : List ℕ). (k : ℕ) → k < suc n → at ys k < q) r.4 (below r.0 r.1 r.2 ih.1),
    )
  where
    below : (x : ℕ) (ys : List ℕ) → x < q → ((k : ℕ) → k < n → at ys k < q) → (k : ℕ) → k < suc n → at (x ∷ ys) k < q
    below x ys l b zero h = l
    below x ys l b (suc k) h = b k (le_of_suc-le-suc h)

tuples-nodup : (q n : ℕ) → NoDup (tuples q n)
unfolding tuples
tuples-nodup q zero = (Memᴰ.not-nil, tt)
tuples-nodup q (suc n) = prefixed-nodup q (tuples q n) (tuples-nodup q n)

-- ---- what is found in a list

-- where all are equal and none is there twice, there is just one
found-one : (xs : List (List ℕ)) (c : List ℕ) → NoDup xs → ((d : List ℕ) → In d xs → d ≡ c) → In c xs → found xs ≡ one c
found-one [] c h only i = absurd (Memᴰ.not-nil i)
found-one (x ∷ []) c h only i = ap one (sym (Memᴰ.eq_of_singleton i))
found-one (x ∷ y ∷ xs) c h only i =
    absurd (h.0 (Memᴰ.head (only x (Memᴰ.head refl) ∙ sym (only y (Memᴰ.tail (Memᴰ.head refl))))))

found-only : (xs : List (List ℕ)) (c d : List ℕ) → found xs ≡ one c → In d xs → d ≡ c
found-only [] c d e i = absurd (Memᴰ.not-nil i)
found-only (x ∷ []) c d e i = let p : x ≡ c = cc in Memᴰ.eq_of_singleton i ∙ p
found-only (x ∷ y ∷ xs) c d e i = let z : ◌≡◌ {A = ℕ} 0 1 = cc in absurd (omega arith)

-- several are found just where two are different
found-several : (xs : List (List ℕ)) (c d : List ℕ) → In c xs → In d xs → c ≢ d → found xs ≡ several
found-several [] c d i j n = absurd (Memᴰ.not-nil i)
found-several (x ∷ []) c d i j n = absurd (n (Memᴰ.eq_of_singleton i ∙ sym (Memᴰ.eq_of_singleton j)))
found-several (x ∷ y ∷ xs) c d i j n = refl

found-two : (xs : List (List ℕ)) → NoDup xs → found xs ≡ several → (c d : List ℕ) × In c xs × In d xs × (c ≢ d)
found-two [] h e = let z : ◌≡◌ {A = ℕ} 0 1 = cc in absurd (omega arith)
found-two (x ∷ []) h e = let z : ◌≡◌ {A = ℕ} 0 1 = cc in absurd (omega arith)
found-two (x ∷ y ∷ xs) h e = (x, y, Memᴰ.head refl, Memᴰ.tail (Memᴰ.head refl), λ p. h.0 (Memᴰ.head p))

found_in : (xs : List (List ℕ)) (c : List ℕ) → found xs ≡ one c → In c xs
found_in [] c e = let z : ◌≡◌ {A = ℕ} 0 1 = cc in absurd (omega arith)
found_in (x ∷ []) c e = let p : c ≡ x = cc in Memᴰ.head p
found_in (x ∷ y ∷ xs) c e = let z : ◌≡◌ {A = ℕ} 0 1 = cc in absurd (omega arith)

-- nothing is found where nothing is, and only there
found_none : (xs : List (List ℕ)) → ((c : List ℕ) → In c xs → ⊥) → found xs ≡ none
found_none [] n = refl
found_none (x ∷ xs) n = absurd (n x (Memᴰ.head refl))

found-empty : (xs : List (List ℕ)) → found xs ≡ none → (c : List ℕ) → In c xs → ⊥
found-empty [] e c i = Memᴰ.not-nil i
found-empty (x ∷ []) e c i = let z : ◌≡◌ {A = ℕ} 0 1 = cc in omega arith
found-empty (x ∷ y ∷ xs) e c i = let z : ◌≡◌ {A = ℕ} 0 1 = cc in omega arith

-- ---- the codewords of a width, and the near ones

pub codewords-nodup : (m : ℕ) → NoDup (codewords m)
unfolding codewords
codewords-nodup m = nodup-map (encode m) (λ c d e. ap data_of e) (tuples (order m) (items m)) (tuples-nodup (order m) (items m))

pub nearby-nodup : (m : ℕ) (es w : List ℕ) (r : ℕ) → NoDup (nearby m es w r)
unfolding nearby
nearby-nodup m es w r = keep-nodup (λ d. leb (changes m es w d) r) (codewords m) (codewords-nodup m)

module _ {m : ℕ} (F : IsField m) where
  pub in-codewords : (c : List ℕ) → In c (codewords m) ↔ Codeword m c
  unfolding codewords
  in-codewords c = (
    λ i.
        let r = Memᴰ.of_map (encode m) (tuples (order m) (items m)) i in
        let t = tuples-out (order m) (items m) r.0 r.1 in
        subst (Codeword m) r.2 (encode-codeword F {c = r.0} (record { size = t.0; symbols = t.1 })),
    λ C.
        let D = codeword-data F C in
        Memᴰ.cast (sym (codeword-encode F C)) (Memᴰ.map (encode m) (tuples-in (order m) (items m) (data_of c) D.size D.symbols)),
  )

  module _ (es w : List ℕ) where
    pub in-nearby : (r : ℕ) (c : List ℕ) → In c (nearby m es w r) ↔ Near m es w r c
    unfolding nearby
    in-nearby r c = (
      λ i.
          let k = keep_out _ (codewords m) i in
          record { codeword = (in-codewords c).0 k.0; few = leb-true (changes m es w c) r k.1 },
      λ N. keep-in (λ d. leb (changes m es w d) r) (codewords m) ((in-codewords c).1 N.codeword) (le-leb (changes m es w c) r N.few),
    )

    -- ---- what restoring finds, within r places

    module _ (r : ℕ) where
      to-near : (c : List ℕ) → In c (nearby m es w r) → Near m es w r c
      to-near c = (in-nearby r c).0

      of-near : (c : List ℕ) → Near m es w r c → In c (nearby m es w r)
      of-near c = (in-nearby r c).1

      is_found : restoration m es w r ≡ found (nearby m es w r)
      unfolding restoration
      is_found = refl

      pub restoration-none : ((c : List ℕ) → Near m es w r c → ⊥) → restoration m es w r ≡ none
      restoration-none n = is_found ∙ found_none (nearby m es w r) (λ c i. n c (to-near c i))

      pub restoration-far : restoration m es w r ≡ none → (c : List ℕ) → Near m es w r c → ⊥
      restoration-far e c N = found-empty (nearby m es w r) (sym is_found ∙ e) c (of-near c N)

      pub restoration-near : (c : List ℕ) → restoration m es w r ≡ one c → Near m es w r c
      restoration-near c e = to-near c (found_in (nearby m es w r) c (sym is_found ∙ e))

      pub restoration-only : (c : List ℕ) → restoration m es w r ≡ one c → (d : List ℕ) → Near m es w r d → d ≡ c
      restoration-only c e d N = found-only (nearby m es w r) c d (sym is_found ∙ e) (of-near d N)

      pub restoration-one : (c : List ℕ) → Near m es w r c → ((d : List ℕ) → Near m es w r d → d ≡ c) → restoration m es w r ≡ one c
      restoration-one c N only =
          is_found ∙ found-one (nearby m es w r) c (nearby-nodup m es w r) (λ d i. only d (to-near d i)) (of-near c N)

      pub restoration-several : (c d : List ℕ) → Near m es w r c → Near m es w r d → c ≢ d → restoration m es w r ≡ several
      restoration-several c d N N' n = is_found ∙ found-several (nearby m es w r) c d (of-near c N) (of-near d N') n

      pub restoration-two : restoration m es w r ≡ several → (c d : List ℕ) × Near m es w r c × Near m es w r d × (c ≢ d)
      restoration-two e =
          let f = found-two (nearby m es w r) (nearby-nodup m es w r) (sym is_found ∙ e) in
          (f.0, f.1, to-near f.0 f.2, to-near f.1 f.3, f.4)
