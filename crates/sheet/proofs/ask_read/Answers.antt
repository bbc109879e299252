-- `sheet::ask_read` meets its contract. Assumes nothing.
use Rattle.std.proofs.Common.{Ok, Err, true, false}
use Rattle.field.proofs.Base.{rules, ◌≡◌, sym, ap, ◌∙◌}
use Rattle.code.specs.Call.{done, membership}
use Rattle.sheet.proofs.Asking.{tested-long, read-no-width, read-no-length, read-refused, read-other, read-content}
use Rattle.sheet.proofs.ask_read.Goals as goal

pub returns-then-order_of-eq0 : goal.returns-then-order_of-eq0
returns-then-order_of-eq0 c = search (rules, read-no-width)

pub returns-then-n-ne-SHEET : goal.returns-then-n-ne-SHEET
returns-then-n-ne-SHEET c = search (rules, read-no-length)

pub returns-in_err-is_codeword : goal.returns-in_err-is_codeword
returns-in_err-is_codeword c =
    let q = c.in_err-is_codeword.field-0.0 in
    let e : c.is_codeword.result ≡ Err q = search rules in
    let r : c.from_residual.result ≡ Err q = search rules in
    ap done r ∙ read-refused _ _ _ c.if-n-ne-SHEET.false q (ap membership (sym e) ∙ c.is_codeword.ensures)

pub ask_content-requires : goal.ask_content-requires
ask_content-requires c =
    let e : c.is_codeword.result ≡ (Ok true) = search rules in
    tested-long _ _ 1 (ap membership (sym e) ∙ c.is_codeword.ensures)

pub returns-then-branch : goal.returns-then-branch
returns-then-branch c =
    let e : c.is_codeword.result ≡ (Ok true) = search rules in
    read-content _ _ _ c.if-n-ne-SHEET.false (ap membership (sym e) ∙ c.is_codeword.ensures) _ c.ask_content.ensures

pub returns-else-branch : goal.returns-else-branch
returns-else-branch c =
    let e : c.is_codeword.result ≡ (Ok false) = search rules in
    read-other _ _ _ c.if-n-ne-SHEET.false (ap membership (sym e) ∙ c.is_codeword.ensures)
