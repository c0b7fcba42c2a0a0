-- The fields of packets as the code lends them. Words of private contracts.
use Rattle.std.specs.Prelude.{List, [], ◌∷◌}
use Rattle.sftp_packets.specs.Spelling.{Field, Number, LongNumber, Text, ExtensionName, Rest, Attributes, Items}
use Rattle.sftp_codec.specs.declared.lent_fields.Field.{Field as Lent}
use Rattle.sftp_codec.specs.declared.lent_fields.Field.TheVariants as lent
use Rattle.sftp_codec.specs.declared.lent_fields.Fields.{Fields}
use Rattle.sftp_codec.specs.declared.lent_fields.Fields.TheVariants.{One, Two, Three}

abbrev pub seen : Lent → Field
seen (lent.Number number) = Number number
seen (lent.LongNumber number) = LongNumber number
seen (lent.Text text) = Text text.now
seen (lent.ExtensionName name) = ExtensionName name.now
seen (lent.Rest bytes) = Rest bytes.now
seen (lent.Attributes attrs) = Attributes attrs.now
seen (lent.Items items) = Items items.now

-- the name of an extension is the first of them
abbrev pub all_seen : Fields → List Field
all_seen (One field) = seen field ∷ []
all_seen (Two first second) = seen first ∷ seen second ∷ []
all_seen (Three first second third) = seen first ∷ seen second ∷ seen third ∷ []
