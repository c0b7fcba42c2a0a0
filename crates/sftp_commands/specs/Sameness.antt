-- What `diff` compares of two tree files.
use Rattle.std.specs.Prelude.{[], Bool, true, false}
use Rattle.sftp_treefile.specs.declared.files.TreeFile.{TreeFile}

-- what is compared: all, or all but times
abbrev pub compared_part : Bool → TreeFile → TreeFile
compared_part true file = file
compared_part false file = record file { times = [] }
