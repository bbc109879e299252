-- `card::records::passed` meets its contract. Assumes nothing.
use Rattle.field.proofs.Base.{ap, not}
use Rattle.card.proofs.Layouts.{passes_none, passes-one, passes-two, passes-three, passes-four}
use Rattle.card.proofs.records.passed.Goals as goal

pub returns-then-n-eq0 : goal.returns-then-n-eq0
returns-then-n-eq0 c =
    let m = c.word_length-n in
    let a = c.args in
    passes_none a.k a.most a.bytes.now m.result m.ensures c.if-n-eq0.true

pub returns-then-allowed-count : goal.returns-then-allowed-count
returns-then-allowed-count c =
    let m = c.word_length-n in
    let a = c.args in
    let q = c.allowed in
    passes-one a.k a.most a.bytes.now m.result m.ensures c.if-n-eq0.false q.result q.ensures c.if-allowed-count.true

pub returns-then-not-padded : goal.returns-then-not-padded
returns-then-not-padded c =
    let m = c.word_length-n in
    let a = c.args in
    let q = c.allowed in
    let p = c.padded in
    passes-two a.k a.most a.bytes.now m.result m.ensures c.if-n-eq0.false q.result q.ensures c.if-allowed-count.false p.result
    p.ensures (ap not c.if-not-padded.true)

pub returns-then-most-count : goal.returns-then-most-count
returns-then-most-count c =
    let m = c.word_length-n in
    let a = c.args in
    let q = c.allowed in
    let p = c.padded in
    passes-three a.k a.most a.bytes.now m.result m.ensures c.if-n-eq0.false q.result q.ensures c.if-allowed-count.false
    p.result p.ensures (ap not c.if-not-padded.false) c.if-most-count.true

pub returns-else-most-count : goal.returns-else-most-count
returns-else-most-count c =
    let m = c.word_length-n in
    let a = c.args in
    let q = c.allowed in
    let p = c.padded in
    passes-four a.k a.most a.bytes.now m.result m.ensures c.if-n-eq0.false q.result q.ensures c.if-allowed-count.false p.result
    p.ensures (ap not c.if-not-padded.false) c.if-most-count.false
