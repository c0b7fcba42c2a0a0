use Rattle.sftp_packets.proofs.FieldLaws.{attribute_flags-is}
use Rattle.sftp_codec.proofs.writing.flag_bits.Goals as goal

pub returns : goal.returns
returns c =
    rw (c.bits.ensures tt, c.set-5.ensures tt, c.is_some-5.ensures, c.set-4.ensures tt, c.is_some-4.ensures, c.set-3.ensures tt, c.is_some-3.ensures, c.set-2.ensures tt, c.is_some-2.ensures, c.set.ensures tt, c.is_some.ensures, c.empty-flags.ensures tt) (attribute_flags-is c.args.attrs.now)
