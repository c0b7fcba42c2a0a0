-- Sessions are gathered one by one, up to the first that is none.
use Rattle.std.proofs.lemmas.Result.{err_from_is_err_and}
use Rattle.sftp_overlapping.proofs.Files.{gathered-next, none-taken, all-gathered}
use Rattle.sftp_overlapping.proofs.gathering.gather_all.Goals as goal

pub members-preserved : goal.members-preserved
members-preserved g c =
    gathered-next g.T.Opens.bytes c.args.members.now c.members.session c.index-members-session.result
    c.members-test.true c.index-members-session.is c.members.set c.members.invariant _
    c.in_ok-add_member.ensures.added

pub returns-in_err-add_member-clause-refused : goal.returns-in_err-add_member-clause-refused
returns-in_err-add_member-clause-refused g c =
    let p = err_from_is_err_and c.from_residual.result c.from_residual.ensures.1 in
    rw (p.1, p.2) (λ judged.
    none-taken g.T.Opens.bytes c.args.members.now c.members.session c.index-members-session.result
    c.members-test.true c.index-members-session.is c.members.set c.members.invariant
    (c.in_err-add_member.ensures.refused judged))

pub returns-clause-gathered : goal.returns-clause-gathered
returns-clause-gathered g c =
    all-gathered g.T.Opens.bytes c.args.members.now c.members.session c.members.set c.members-test.false
    c.members.invariant
