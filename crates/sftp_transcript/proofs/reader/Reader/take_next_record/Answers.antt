-- Behind the opening the same record is next.
use Rattle.sftp_transcript.proofs.Imports.{List, ℕ, ◌⊎◌, IfOk-weaker, IfErr-weaker, FaultAhead, GivesNext}
use Rattle.sftp_transcript.proofs.Imports.{FaultNext, IsStageThen, HasAhead, IsExcuse}
use Rattle.sftp_transcript.proofs.Packets.{gives_opened, fault_opened, stage_then_opened}
use Rattle.sftp_transcript.proofs.reader.Reader.take_next_record.Goals as goal

pub returns-clause-found : goal.returns-clause-found
returns-clause-found g c =
    let old = c.args.self.now in
    let mid = c.take_opening.new.self in
    let new = c.take_record.new.self in
    IfOk-weaker c.take_record.result (λ given. (before : List ℕ) → HasAhead mid.ahead before → GivesNext mid.stage before given new)
    (λ given. (before : List ℕ) → HasAhead old.ahead before → GivesNext old.stage before given new)
    (λ given found before known.
    let opened = c.in_ok-take_opening.ensures.opened before known in
    gives_opened old.stage mid.stage before opened.0 given new c.in_ok-take_opening.ensures.stage opened.2 (found opened.0 opened.1))
    c.take_record.ensures.found

pub returns-clause-first : goal.returns-clause-first
returns-clause-first g c = λ before known.
    let old = c.args.self.now in
    let mid = c.take_opening.new.self in
    let opened = c.in_ok-take_opening.ensures.opened before known in
    IfErr-weaker c.take_record.result (λ error. IsExcuse error ⊎ FaultAhead mid.stage mid.number opened.0 error)
    (λ error. IsExcuse error ⊎ FaultNext old.stage old.number before error)
    (λ error fault. fault_opened old.stage mid.stage old.number mid.number before opened.0 error c.in_ok-take_opening.ensures.stage c.take_opening.ensures.number opened.2 fault)
    (c.take_record.ensures.first opened.0 opened.1)

pub returns-clause-stage : goal.returns-clause-stage
returns-clause-stage g c =
    let old = c.args.self.now in
    let mid = c.take_opening.new.self in
    let new = c.take_record.new.self in
    IfOk-weaker c.take_record.result (λ given. IsStageThen mid.stage given new.stage)
    (λ given. IsStageThen old.stage given new.stage)
    (λ given is. stage_then_opened old.stage mid.stage given new.stage c.in_ok-take_opening.ensures.stage is)
    c.take_record.ensures.stage
