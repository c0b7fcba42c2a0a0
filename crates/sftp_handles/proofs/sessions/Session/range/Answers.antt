use Rattle.sftp_handles.proofs.Imports.{Option, ℕ, sym, ap, ◌∙◌}
use Rattle.sftp_handles.specs.Clash.{touched}
use Rattle.sftp_handles.specs.Spans.{ends_of, file_in, range_now, spanned}
use Rattle.sftp_handles.proofs.RangeLaws.Spans.{range-is}
use Rattle.sftp_handles.proofs.sessions.Session.range.Goals as goal

pub returns-in-Some : goal.returns-in-Some
returns-in-Some g c =
    let s = c.args.self.now in
    let ask = c.args.ask.now in
    c.range_of.ensures
    ∙ (ap (λ (file : Option ℕ). range_now s file (ends_of c.span.result)) (sym c.in-Some.is ∙ (c.file.ensures ask
    ∙ ap file_in c.touch.ensures))
    ∙ (ap (range_now s (file_in (touched s ask))) c.span.ensures ∙ sym (range-is s ask)))

pub returns-in-None : goal.returns-in-None
returns-in-None g c =
    let s = c.args.self.now in
    let ask = c.args.ask.now in
    sym (range-is s ask
    ∙ ap (λ (file : Option ℕ). range_now s file (spanned s ask)) (sym (c.file.ensures ask ∙ ap file_in c.touch.ensures)
    ∙ c.in-None.is))
