-- What a stream that counts is put around.
use Rattle.sftp_serving.specs.declared.streams.Counted.{Counted}
use Rattle.sftp_serving.specs.declared.streams.Noted.{Noted}

abbrev pub inner_of : {T : Type 0} → Counted T → T
inner_of counted = counted.inner

-- where a record goes
abbrev pub place_of : {T : Type 0} → Noted T → T
place_of noted = inner_of noted.place
