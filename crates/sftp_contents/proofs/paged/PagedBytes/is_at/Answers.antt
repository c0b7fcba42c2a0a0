use Rattle.std.proofs.Common.{◌≡◌, ℕ, length, take, drop, sym, ap, ◌∙◌, arith}
use Rattle.std.proofs.lemmas.Bool.{eq-eqb}
use Rattle.sftp_contents.specs.Bytes.{tabulate}
use Rattle.sftp_contents.specs.Pieces.{byte_at}
use Rattle.sftp_contents.proofs.Tabulated.{tabulate-length}
use Rattle.sftp_contents.proofs.Whole.{range-of}
use Rattle.sftp_contents.proofs.paged.PagedBytes.is_at.Goals as goal

pub returns-then-count-given-clause-same : goal.returns-then-count-given-clause-same
returns-then-count-given-clause-same c = λ yes.
    let f : ℕ → ℕ = byte_at c.self.inside.store in
    let e = range-of c.self.inside.store c.self.inside.len c.args.offset c.args.most c.min-start.result
    c.min-count.result c.min-start.ensures c.min-count.ensures in
    let n : c.min-count.result ≡ length c.args.given.now = omega arith in
    sym (ap (λ t. take c.args.most (drop c.args.offset t)) c.self.view_is) ∙ e
    ∙ ap (tabulate f c.min-start.result) n ∙ c.is_same.ensures.same yes

pub returns-then-count-given-clause-apart : goal.returns-then-count-given-clause-apart
returns-then-count-given-clause-apart c = λ same.
    let f : ℕ → ℕ = byte_at c.self.inside.store in
    let e = range-of c.self.inside.store c.self.inside.len c.args.offset c.args.most c.min-start.result
    c.min-count.result c.min-start.ensures c.min-count.ensures in
    let n : c.min-count.result ≡ length c.args.given.now = omega arith in
    c.is_same.ensures.apart (sym (ap (tabulate f c.min-start.result) n) ∙ sym e
    ∙ ap (λ t. take c.args.most (drop c.args.offset t)) c.self.view_is ∙ same)

pub returns-else-count-given-clause-apart : goal.returns-else-count-given-clause-apart
returns-else-count-given-clause-apart c = λ same.
    let f : ℕ → ℕ = byte_at c.self.inside.store in
    let e = range-of c.self.inside.store c.self.inside.len c.args.offset c.args.most c.min-start.result
    c.min-count.result c.min-start.ensures c.min-count.ensures in
    let l : c.min-count.result ≡ length c.args.given.now =
    sym (tabulate-length f c.min-start.result c.min-count.result) ∙ ap length (sym e
    ∙ ap (λ t. take c.args.most (drop c.args.offset t)) c.self.view_is ∙ same) in
    eq-eqb c.min-count.result (length c.args.given.now) l
