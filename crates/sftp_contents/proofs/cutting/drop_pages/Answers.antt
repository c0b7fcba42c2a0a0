use Rattle.std.proofs.Common.{◌≢◌, length, ◌∙◌, arith}
use Rattle.std.proofs.lemmas.List.{nil_from_length}
use Rattle.std.proofs.Common.{inl, inr}
use Rattle.std.proofs.lemmas.Bool.{cases_lt, false≢true}
use Rattle.sftp_contents.proofs.Pages.{removed, above-top, empty-page}
use Rattle.sftp_contents.proofs.cutting.drop_pages.Goals as goal

pub returns-then-number-last-clause-high : goal.returns-then-number-last-clause-high
returns-then-number-last-clause-high c = λ n h.
    above-top c.dropping.pages c.in-Some.number.now n c.in-Some.ensures.greatest (omega arith)

pub dropping-preserved-else-number-last : goal.dropping-preserved-else-number-last
dropping-preserved-else-number-last c = λ n h.
    let differ : n ≢ c.in-Some.number.now = omega arith in
    removed c.dropping.pages c.remove-page.new.self c.in-Some.number.now n c.remove-page.ensures.updates differ
    ∙ c.dropping.invariant n h

pub returns-clause-high : goal.returns-clause-high
returns-clause-high c = λ n h. empty-page c.dropping.pages n
    (elim (cases_lt 0 (length c.dropping.pages.entries)) [
      | inl some ↦ absurd (false≢true (c.in_default.ensures.variant.1 some))
      | inr none ↦ nil_from_length c.dropping.pages.entries (omega arith)
    ])
