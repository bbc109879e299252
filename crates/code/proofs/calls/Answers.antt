-- What the answers of the functions that put the questions say, for the calls above them. Assumes nothing.
use Rattle.std.proofs.Common.{Ok, Err}
use Rattle.field.specs.Question.{Verdict}
use Rattle.field.proofs.Base.{◌≡◌, refl, sym, ap, ◌∙◌, Bool, true, false, cond, false≢true, List, ℕ, ◌+◌, ◌≤◌, arith, eq-eqb}
use Rattle.field.proofs.Base.{eqb-true, eqb, length}
use Rattle.field.specs.Field.{order}
use Rattle.field.specs.Question.{accepted, refused, refusal, ask, after, is_width, all_below}
use Rattle.field.specs.inner.Operand.{order_of}
use Rattle.field.specs.declared.Question.{Question}
use Rattle.field.specs.declared.Question.TheVariants.{Width, Length, Symbol, Syndrome}
use Rattle.field.proofs.Ask.{ask-yes, ask-next}
use Rattle.field.proofs.Widths.{field_of}
use Rattle.code.specs.Word.{checks, places, items, encode, data_of}
use Rattle.code.specs.Call.{written, done, zero_syndromes, word_asked, data_asked, encode_asked, Encodes, is_codeword_asked, is_codeword_of}
use Rattle.code.specs.Call.{read_data_asked, ReadsData}

-- one question of a chain that stops there, or goes on
ask-stop : (b : Bool) (p q : Question) (v next : Verdict) → ask b p v ≡ Err q → (v ≡ Err q → Err q ≡ next) → Err q ≡ ask b p next
ask-stop true p q v next e f = f e
ask-stop false p q v next e f = sym e

passed-not : (v : Verdict) (q : Question) → v ≡ Ok tt → v ≡ Err q → ⊥
passed-not v q p e = let z : true ≡ false = cc in absurd (false≢true (sym z))

-- ---- questions 1 and 2

module _ (m n : ℕ) (v : Verdict) (e : v ≡ word_asked m n (Ok tt)) where
  module _ (p : v ≡ (Ok tt)) where
    pub word_width : is_width m ≡ true
    word_width = ask-yes (is_width m) Width _ (sym e ∙ p)

    pub word_size : n ≡ places m
    word_size = eqb-true n (places m) (ask-yes (eqb n (places m)) Length (Ok tt) (ask-next (is_width m) Width _ (sym e ∙ p)))

    pub word-long : checks ≤ n
    word-long = omega (arith, word_size, (field_of m word_width).one-lt)

    pub word_on : (u next : Verdict) → u ≡ next → u ≡ word_asked m n next
    word_on u next f = f ∙ simp (word_width, eq-eqb n (places m) word_size)

  pub word-stop : (q : Question) → v ≡ Err q → (next : Verdict) → Err q ≡ word_asked m n next
  word-stop q p next =
      ask-stop (is_width m) Width q _ _ (sym e ∙ p)
      (λ f. ask-stop (eqb n (places m)) Length q (Ok tt) next f (λ g. absurd (passed-not _ q refl g)))

-- ---- question 7

-- after questions 1 and 2
pub test_on : (m n : ℕ) (xs : List ℕ) (v u : Verdict) → v ≡ word_asked m n (Ok tt) → v ≡ (Ok tt) → u ≡ ask (all_below (order_of m) xs) Symbol (Ok tt)
    → u ≡ word_asked m n (ask (all_below (order m) xs) Symbol (Ok tt))
test_on m n xs v u e p f =
    word_on m n v e p u _
    (f ∙ ap (λ (q : ℕ). ask (all_below q xs) Symbol (Ok tt)) (ap (λ (b : Bool). cond b (order m) 0) (word_width m n v e p)))

-- ---- questions 1, 2 and 7 of a word and data

module _ (m n d : ℕ) (xs : List ℕ) (v : Verdict) (e : v ≡ word_asked m n (data_asked m d xs (Ok tt))) where
  module _ (p : v ≡ (Ok tt)) where
    first : word_asked m n (Ok tt) ≡ (Ok tt)
    first = simp (ask-yes (is_width m) Width _ (sym e ∙ p), ask-yes (eqb n (places m)) Length _ (ask-next (is_width m) Width _ (sym e ∙ p)))

    pub slices-width : is_width m ≡ true
    slices-width = word_width m n (word_asked m n (Ok tt)) refl first

    pub slices-word : n ≡ places m
    slices-word = word_size m n (word_asked m n (Ok tt)) refl first

    pub slices-long : checks ≤ n
    slices-long = word-long m n (word_asked m n (Ok tt)) refl first

    rest : data_asked m d xs (Ok tt) ≡ (Ok tt)
    rest = ask-next (eqb n (places m)) Length _ (ask-next (is_width m) Width _ (sym e ∙ p))

    pub slices-data : d ≡ items m
    slices-data = eqb-true d (items m) (ask-yes (eqb d (items m)) Length _ rest)

    pub slices-lengths : n ≡ checks + d
    slices-lengths = omega (arith, slices-word, slices-data, (field_of m slices-width).one-lt)

    pub slices-symbols : all_below (order m) xs ≡ true
    slices-symbols = ask-yes (all_below (order m) xs) Symbol (Ok tt) (ask-next (eqb d (items m)) Length _ rest)

    slices-next : (u next : Verdict) → u ≡ next → u ≡ word_asked m n (data_asked m d xs next)
    slices-next u next f =
        word_on m n (word_asked m n (Ok tt)) refl first u _ (f ∙ simp (eq-eqb d (items m) slices-data, slices-symbols))

  slices-stop : (q : Question) → v ≡ Err q → (next : Verdict) → Err q ≡ word_asked m n (data_asked m d xs next)
  slices-stop q p next =
      ask-stop (is_width m) Width q _ _ (sym e ∙ p)
      (λ f. ask-stop (eqb n (places m)) Length q _ _ f
      (λ g. ask-stop (eqb d (items m)) Length q _ _ g
      (λ h. ask-stop (all_below (order m) xs) Symbol q (Ok tt) next h (λ i. absurd (passed-not _ q refl i)))))

-- ---- encode

module _ (m : ℕ) (ds old new : List ℕ) (v : Verdict) (e : v ≡ word_asked m (length old) (data_asked m (length ds) ds (Ok tt))) where
  -- the verdict u is given back, and the word is written only where it passed
  pub encodes : (u : Verdict) → v ≡ u → new ≡ written u old (encode m ds) → Encodes m ds old u new
  unfolding encode_asked
  encodes u p h =
      let f = sym p ∙ e in
      record { answer = ap done f; word = h ∙ ap (λ (x : Verdict). written x old (encode m ds)) f }

-- ---- the codeword test

module _ (m : ℕ) (w : List ℕ) (v : Verdict) (e : v ≡ is_codeword_asked m w) where
  module _ (p : v ≡ (Ok tt)) where
    asked : is_codeword_asked m w ≡ (Ok tt)
    asked = sym e ∙ p

    pub test-width : is_width m ≡ true
    unfolding is_codeword_asked
    test-width = ask-yes (is_width m) Width _ asked

    pub test-size : length w ≡ places m
    unfolding is_codeword_asked
    test-size = eqb-true (length w) (places m) (ask-yes (eqb (length w) (places m)) Length _ (ask-next (is_width m) Width _ asked))

    pub test-long : checks ≤ length w
    test-long = omega (arith, test-size, (field_of m test-width).one-lt)

    pub test-symbols : all_below (order m) w ≡ true
    unfolding is_codeword_asked
    test-symbols =
        ask-yes (all_below (order m) w) Symbol (Ok tt) (ask-next (eqb (length w) (places m)) Length _ (ask-next (is_width m) Width _ asked))

    -- the answer b to the question about the syndromes is c
    pub test-answer : (b c : Bool) → b ≡ zero_syndromes m w → b ≡ c → accepted (cond c 1 0) ≡ is_codeword_of m w
    test-answer b c f t =
        ap (λ (d : Bool). accepted (cond d 1 0)) (sym t ∙ f) ∙ ap (λ (u : Verdict). after u (accepted (cond (zero_syndromes m w) 1 0))) (sym asked)

  pub test-refused : (q : Question) → v ≡ Err q → refused (refusal q) ≡ is_codeword_of m w
  test-refused q p = ap (λ (u : Verdict). after u (accepted (cond (zero_syndromes m w) 1 0))) (sym p ∙ e)

-- ---- the reader of data

module _ (m d : ℕ) (w : List ℕ) (v : Verdict) (e : v ≡ word_asked m (length w) (data_asked m d w (Ok tt))) where
  -- the answer b to the question about the syndromes is c
  pub read_answer : v ≡ (Ok tt) → (b c : Bool) → b ≡ zero_syndromes m w → b ≡ c → ask c Syndrome (Ok tt) ≡ read_data_asked m w d
  unfolding read_data_asked
  read_answer p b c f t = slices-next m (length w) d w v e p (ask c Syndrome (Ok tt)) _ (ap (λ (x : Bool). ask x Syndrome (Ok tt)) (sym t ∙ f))

  pub read-stop : (q : Question) → v ≡ Err q → Err q ≡ read_data_asked m w d
  unfolding read_data_asked
  read-stop q p = slices-stop m (length w) d w v e q p _

module _ (m : ℕ) (w old : List ℕ) (v : Verdict) (e : v ≡ read_data_asked m w (length old)) where
  pub reads : (new : List ℕ) (u : Verdict) → v ≡ u → new ≡ written u old (data_of w) → ReadsData m w old u new
  reads new u p h =
      let f = sym p ∙ e in
      record { answer = ap done f; symbols = h ∙ ap (λ (x : Verdict). written x old (data_of w)) f }

  pub reads-lengths : v ≡ (Ok tt) → length w ≡ checks + length old
  unfolding read_data_asked
  reads-lengths p =
      let w1 = ask-yes (is_width m) Width _ (sym e ∙ p) in
      let r1 = ask-next (is_width m) Width _ (sym e ∙ p) in
      let r2 = ask-next (eqb (length w) (places m)) Length _ r1 in
      omega (
        arith,
        eqb-true (length w) (places m) (ask-yes (eqb (length w) (places m)) Length _ r1),
        eqb-true (length old) (items m) (ask-yes (eqb (length old) (items m)) Length _ r2),
        (field_of m w1).one-lt,
      )
