-- `programs::cardconvert::copy_part` meets its contract. Assumes nothing.
use Rattle.field.proofs.Base.{◌≡◌, ap, ◌∙◌, ℕ, ◌-◌, ◌*◌, ◌≤◌, List, arith, length, take, length-take-le}
use Rattle.card.specs.Record.{size_of, erasure_bytes}
use Rattle.programs.specs.inner.Copies.{copy_slots, copy_size}
use Rattle.programs.proofs.Converting.{copy-room, copies-sized}
use Rattle.programs.proofs.cardconvert.copy_part.Goals as goal

-- the slots fit into a buffer
module _ (want size k : ℕ) (buf : List ℕ) (w : want ≤ copy_slots) (e : size ≡ size_of k) (h : k ≤ erasure_bytes) (l : length buf ≡ copy_size) where
  fits : want * size ≤ length buf
  fits = copy-room want size k (length buf) w e h l

  front : length (take (want * size) buf) ≡ want * size
  front = length-take-le (want * size) buf fits

pub copy_slots-requires : goal.copy_slots-requires
copy_slots-requires c =
    let r = c.requires.fine in
    let a = c.args in
    let x = c.size_of in
    let y = c.size_of-2 in
    let few : 9 - a.k ≤ 5 = omega (arith, r.1) in
    let f = fits a.want x.result a.k a.buf.now r.3 x.ensures r.2 c.requires.buf_len.0 in
    let g = fits a.want y.result (9 - a.k) a.other.now r.3 y.ensures few c.requires.buf_len.1 in (
      r.0,
      r.1,
      r.2,
      omega (arith, front a.want x.result a.k a.buf.now r.3 x.ensures r.2 c.requires.buf_len.0, f, c.requires.buf_len.0),
      omega (arith, front a.want y.result (9 - a.k) a.other.now r.3 y.ensures few c.requires.buf_len.1, g, c.requires.buf_len.1),
    )

pub returns : goal.returns
returns c =
    let r = c.requires.fine in
    let a = c.args in
    let x = c.size_of in
    let y = c.size_of-2 in
    let few : 9 - a.k ≤ 5 = omega (arith, r.1) in
    let f = front a.want x.result a.k a.buf.now r.3 x.ensures r.2 c.requires.buf_len.0 in
    let g = front a.want y.result (9 - a.k) a.other.now r.3 y.ensures few c.requires.buf_len.1 in
    copies-sized a.c c.copy_slots.result (f ∙ ap (λ (n : ℕ). a.want * n) x.ensures) (g ∙ ap (λ (n : ℕ). a.want * n) y.ensures) c.copy_slots.ensures
