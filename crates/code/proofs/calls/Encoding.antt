-- The encoder makes a codeword from any data, which it holds, and every codeword from its own data. Assumes nothing.
use Rattle.field.proofs.Base.{◌≡◌, refl, sym, ap, ◌∙◌, subst, List, ℕ, ◌+◌, ◌-◌, ◌≤◌, ◌<◌, dec_lt, arith, length-drop, get_or-drop, ext_get_or}
use lib.ListN.{get_or-append}
use Rattle.field.specs.Polynomial.{add}
use Rattle.field.specs.Field.{order}
use Rattle.field.proofs.Laws.{IsField}
use Rattle.field.proofs.Evaluation.{five-at}
use Rattle.code.specs.Word.{checks, places, five, at, parity, syndrome, Codeword, encode, data_of}
use Rattle.code.specs.Demands.{Data}
use Rattle.code.proofs.calls.Parities.{parity-data}
use Rattle.code.proofs.Sums.{parity-lt}

-- the encoder's word holds the data
pub encode-data : (m : ℕ) (c : List ℕ) → data_of (encode m c) ≡ c
encode-data m c = refl

-- syndrome k of a word, from its data as a list
pub syndrome-data : (m : ℕ) (w : List ℕ) (k : ℕ) → syndrome m (at w) k ≡ add (at w k) (parity m (at (data_of w)) k)
syndrome-data m w k = ap (add (at w k)) (sym (parity-data m w k))

-- the symbols of the encoder's word
pub encode-check : (m : ℕ) (c : List ℕ) (k : ℕ) → k < checks → at (encode m c) k ≡ parity m (at c) k
encode-check m c k h = get_or-append (five (parity m (at c))) c 0 k h ∙ five-at (parity m (at c)) k h

pub encode-item : (m : ℕ) (c : List ℕ) (p : ℕ) → checks ≤ p → at (encode m c) p ≡ at c (p - checks)
encode-item m c p h =
    let split : p ≡ checks + (p - checks) = omega arith in
    ap (at (encode m c)) split ∙ sym (get_or-drop checks (encode m c) (p - checks) 0)

module _ {m : ℕ} (F : IsField m) where
  pub encode-codeword : {c : List ℕ} → Data m c → Codeword m (encode m c)
  encode-codeword {c} D = record {
    size = omega arith;
    symbols = λ p h. go p h (dec_lt p checks);
    zero-syndromes = λ k h. syndrome-data m (encode m c) k ∙ ap (λ (x : ℕ). add x (parity m (at c) k)) (encode-check m c k h) ∙ F.add-self _;
  }
    where
      go : (p : ℕ) → p < places m → Dec (p < checks) → at (encode m c) p < order m
      go p h (yes l) = subst (λ (x : ℕ). x < order m) (sym (encode-check m c p l)) (parity-lt F (at c) p)
      go p h (no n) = subst (λ (x : ℕ). x < order m) (sym (encode-item m c p (omega arith))) (D.symbols (p - checks) (omega arith))

  -- every codeword is the encoding of its data
  pub codeword-encode : {w : List ℕ} → Codeword m w → encode m (data_of w) ≡ w
  codeword-encode {w} C = ext_get_or 0 (encode m (data_of w)) w (simp length-drop (omega arith)) (λ p h. go p (dec_lt p checks))
    where
      go : (p : ℕ) → Dec (p < checks) → at (encode m (data_of w)) p ≡ at w p
      go p (yes l) = encode-check m (data_of w) p l ∙ sym (F.eq-of-add _ _ (sym (syndrome-data m w p) ∙ C.zero-syndromes p l))
      go p (no n) =
          let split : checks + (p - checks) ≡ p = omega arith in
          encode-item m (data_of w) p (omega arith) ∙ get_or-drop checks w (p - checks) 0 ∙ ap (at w) split

  pub codeword-data : {w : List ℕ} → Codeword m w → Data m (data_of w)
  codeword-data {w} C = record {
    size = simp length-drop (omega arith);
    symbols = λ i h. subst (λ (x : ℕ). x < order m) (sym (get_or-drop checks w i 0)) (C.symbols (checks + i) (omega arith));
  }
