use Rattle.std.proofs.Common.{rules}
use Rattle.sftp_packets.specs.Layouts.{Extends}
use Rattle.sftp_codec.proofs.Appended.{Extends-after}
use Rattle.sftp_codec.proofs.writing.put_pairs.Goals as goal

pub returns-in_err-put_two_strings-clause-err : goal.returns-in_err-put_two_strings-clause-err
returns-in_err-put_two_strings-clause-err c =
    let all : Extends c.args.out.now.items c.put_two_strings.new.out.items = Extends-after _ _ _ _ c.loop-name.invariant c.in_err-put_two_strings.ensures.err in
    search rules
