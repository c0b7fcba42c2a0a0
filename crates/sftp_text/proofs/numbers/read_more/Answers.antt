use Rattle.std.proofs.Common.{◌≡◌, ◌+◌, ◌-◌, ◌*◌, ◌<◌}
use Rattle.sftp_text.proofs.ListLaws.{digits_from-above}
use Rattle.sftp_text.proofs.numbers.read_more.Goals as goal

pub returns-in_default-with_digit : goal.returns-in_default-with_digit
returns-in_default-with_digit c =
    let digit : c.in-Some-digit_of.digit ≡ c.in-Some.first.now - 48 = c.in-Some-digit_of.ensures.1 in
    let large : c.args.most < c.digits.n * c.args.base + c.in-Some-digit_of.digit = c.in_default-with_digit.ensures in
    let above : c.args.most < c.digits.n * c.args.base + (c.in-Some.first.now - 48) = rw digit at large in
    rw (← c.digits.invariant.same) (rw c.in-Some.ensures.cases.0
    (digits_from-above c.args.base c.digits.n c.in-Some.first.now c.in-Some.rest.now c.args.most c.requires.base.0
    c.in-Some-digit_of.ensures.0 above))
