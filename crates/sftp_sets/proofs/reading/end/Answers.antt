-- A request that waits, a record without an entry, an entry without a record; or the session is read.
use Rattle.sftp_audit.proofs.Imports.{◌≡◌, length, refl, arith, ◌∙◌, slice_get_read}
use Rattle.sftp_sets.proofs.Timing.{none_first, end-waits, end-untimed, end-spare, end-read}
use Rattle.sftp_sets.proofs.reading.end.Goals as goal

pub returns-in-Some : goal.returns-in-Some
returns-in-Some c = λ transcript read.
    let kept = c.args.collected.kept in
    end-waits c.args.times.now.start c.args.times.now.entries.items transcript c.args.collected c.in-Some.waiting.now
    (slice_get_read kept.items kept.len 0 c.in-Some.waiting.now kept.ok.0 (c.in-Some.ensures.variant.0 refl)
    c.in-Some.ensures.lookup) read

pub returns-then-count-collected : goal.returns-then-count-collected
returns-then-count-collected c = λ transcript read.
    let entries = c.args.times.now.entries in
    let size : c.len-count.result ≡ length entries.items = omega (arith, c.len-count.ensures, entries.ok.0) in
    let told = end-untimed c.args.times.now.start entries.items transcript c.args.collected
    (omega (arith, c.if-count-collected.true, size)) read in
    (told.0, (told.1.0, told.1.1, omega (arith, size), told.1.3))

pub returns-then-count-collected-2 : goal.returns-then-count-collected-2
returns-then-count-collected-2 c = λ transcript read.
    let entries = c.args.times.now.entries in
    let size : c.len-count.result ≡ length entries.items = omega (arith, c.len-count.ensures, entries.ok.0) in
    end-spare c.args.times.now.start entries.items transcript c.args.collected
    (omega (arith, c.if-count-collected-2.true, size)) read

pub returns : goal.returns
returns c = λ transcript read.
    let entries = c.args.times.now.entries in
    let kept = c.args.collected.kept in
    let size : c.len-count.result ≡ length entries.items = omega (arith, c.len-count.ensures, entries.ok.0) in
    let told = end-read c.args.times.now.start entries.items transcript c.args.collected
    (none_first kept.items kept.len kept.ok.0 c.in_default.ensures.variant.1)
    (omega (arith, c.if-count-collected.false, c.if-count-collected-2.false, size)) read in
    (told.0, told.1, c.new.ensures ∙ told.2)
