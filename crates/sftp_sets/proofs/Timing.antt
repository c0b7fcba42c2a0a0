-- Events with times, and what is read of a session.
use Rattle.sftp_audit.proofs.Imports.{◌≡◌, ◌==◌, ℕ, ◌+◌, ◌<◌, ◌≤◌, Bool, true, false, if◌then◌else◌, List, [], ◌∷◌, ◌++◌, length, Option, Some, None, refl, sym, ap, subst, ◌∙◌, arith, map, option_map, slice_get, Ok, Err, Result, IsTrue}
use Rattle.std.specs.Result.{IfErr}
use Rattle.sftp_packets.specs.declared.packets.Request.{Request}
use Rattle.sftp_packets.specs.declared.packets.Reply.{Reply}
use Rattle.sftp_streams.specs.Streams.{one_more}
use Rattle.sftp_transcript.specs.declared.events.Event.{Event}
use Rattle.sftp_transcript.specs.declared.events.Event.TheVariants.{Asked, Replied}
use Rattle.sftp_transcript.specs.declared.errors.TranscriptError.{TranscriptError}
use Rattle.sftp_transcript.specs.Explained.{Explained, Matching, in_window, exchanges_of as events_exchanges, leading_pairs}
use Rattle.sftp_transcript.specs.Recorded.{Reading}
use Rattle.sftp_transcript.specs.Sound.{first_number, number_after_events, HasGiven, GaveFrom, FaultOf, ReadUpTo}
use Rattle.sftp_transcript.specs.declared.stage.Stage.{Stage}
use Rattle.sftp_transcript.specs.Transcript.{IsRecord}
use Rattle.sftp_transcript.proofs.transcripts.{records_are_one_lem}
use Rattle.sftp_tree.specs.Tree.{Tree}
use Rattle.sftp_tree.specs.Picture.{blank}
use Rattle.sftp_together.specs.declared.exchanges.TimedExchange.{TimedExchange}
use Rattle.sftp_together.specs.declared.exchanges.Stamp.{Stamp}
unfoldable use Rattle.sftp_together.specs.Sets.{next_timed, timed_from}
use Rattle.sftp_together.specs.Sets.{TimedEvent, event_of, IsWhole, answered_first}
use Rattle.sftp_audit.specs.declared.errors.Refusal.{Refusal}
use Rattle.sftp_audit.specs.declared.errors.Refusal.TheVariants as refusals
use Rattle.sftp_audit.specs.declared.errors.AuditError.{AuditError}
use Rattle.sftp_audit.specs.declared.errors.AuditError.TheVariants as audit_errors
use Rattle.sftp_audit.specs.declared.exchanges.Exchange.{Exchange}
use Rattle.sftp_audit.specs.declared.exchanges.RecordedReply.{RecordedReply}
unfoldable use Rattle.sftp_audit.specs.Exchanges.{next_recorded, exchanges_from}
use Rattle.sftp_audit.specs.Exchanges.{recorded_exchanges}
use Rattle.sftp_audit.specs.Audit.{IsNew, IsNoJudgement, StopsFeed, IsPlain, WasFed, request_count, error_of_transcript, error_of_session}
use Rattle.sftp_audit.specs.Trees.{AccountsFrom, IsFirstFaultFrom}
use Rattle.sftp_audit.proofs.steps.{HasOneEnd}
use Rattle.sftp_audit.proofs.auditing.{same_head, same_tail}
use Rattle.sftp_audit.proofs.auditing.Standing.{explained-settled, lacks_reply}
use Rattle.sftp_audit.proofs.streams.{IsFeeding, stops-fault, stops-refused, no_run, feed-lost, feed-first, end-lost, end-first}
use Rattle.sftp_sets.specs.declared.collecting.Collected.{Collected}
use Rattle.sftp_sets.specs.declared.waiting.Waiting.{Waiting}
use Rattle.sftp_sets.specs.declared.errors.SessionError.{SessionError}
use Rattle.sftp_sets.specs.declared.errors.SessionError.TheVariants as errors
unfoldable use Rattle.sftp_sets.specs.Sessions.{timed_in}
use Rattle.sftp_sets.specs.Sessions.{time_of, timed, IsSession, IsUnread, any}
use Rattle.sftp_sets.specs.Collecting.{Holds, WasRead, IsRead, exchange_of, exchanges_of, untimed, untimed_all, AreTimely, Notes, HasReason}
use Rattle.sftp_sets.proofs.Holding.{run-any, kept_as, stands, holds-start}

-- where no event is given, all are read
none_given : (transcript : List ℕ) (events : List Event) (given : Option Event) (new : Reading)
    → ((event : Event) → given ≡ Some event → ⊥) → GaveFrom transcript events given new → IsRecord events transcript
none_given transcript events (Some event) new other gave = absurd (other event refl)
none_given transcript events None new other gave =
    subst (λ (stage : Stage). ReadUpTo stage transcript events []) gave.1 gave.0.read

-- where there is no first request
pub none_first : (waiting : List Waiting) (size : ℕ) → size ≡ length waiting → (0 < size → false ≡ true)
    → slice_get waiting 0 ≡ None
none_first [] size is none = refl
none_first (w ∷ waiting) size is none = let no : false ≡ true = none (omega (arith, is)) in absurd cc

module _ (start : ℕ) (entries : List ℕ) where
  -- ---- events with times

  events-timed : (number : ℕ) (events : List Event) → map event_of (timed_in start entries number events) ≡ events
  unfolding timed_in
  events-timed number [] = refl
  events-timed number (event ∷ events) = ap (λ (es : List Event). event ∷ es) (events-timed (one_more number) events)

  -- a recorded reply, and its record with its time
  abbrev stamped : RecordedReply → Reply × Stamp
  stamped recorded =
      (recorded.reply, record { number = recorded.number; time = time_of start entries recorded.number })

  next-timed : (id number : ℕ) (events : List Event)
      → next_timed id number (timed_in start entries number events)
      ≡ option_map stamped (next_recorded id number events)
  unfolding timed_in next_timed next_recorded
  next-timed id number [] = refl
  next-timed id number (Asked request ∷ events) = next-timed id (one_more number) events
  next-timed id number (Replied reply ∷ events) = by (reply.id == id) (next-timed id (one_more number) events)
    where
      by : (b : Bool) → next_timed id (one_more number) (timed_in start entries (one_more number) events)
          ≡ option_map stamped (next_recorded id (one_more number) events)
          → (if b then Some (stamped (record { reply = reply; number = number }))
          else next_timed id (one_more number) (timed_in start entries (one_more number) events))
          ≡ option_map stamped (if b then Some (record { reply = reply; number = number })
          else next_recorded id (one_more number) events)
      by true later = refl
      by false later = later

  -- an exchange is what its parts are
  same_exchange : (d : TimedExchange) (request : Request) (number : ℕ) → request ≡ d.request → number ≡ d.asked.number
      → d.asked.time ≡ time_of start entries d.asked.number → d.replied.time ≡ time_of start entries d.replied.number
      → (let x : TimedExchange = record {
        request = request;
        asked = record { number = number; time = time_of start entries number };
        reply = d.reply;
        replied = record { number = d.replied.number; time = time_of start entries d.replied.number };
      } in x) ≡ d
  same_exchange d request number is_request is_number asked replied =
      ap (λ (r : Request). record {
        request = r;
        asked = record { number = number; time = time_of start entries number };
        reply = d.reply;
        replied = record { number = d.replied.number; time = time_of start entries d.replied.number };
      }) is_request
      ∙ ap (λ (n : ℕ). record {
        request = d.request;
        asked = record { number = n; time = time_of start entries n };
        reply = d.reply;
        replied = record { number = d.replied.number; time = time_of start entries d.replied.number };
      }) is_number
      ∙ ap (λ (t : ℕ). record {
        request = d.request;
        asked = record { number = d.asked.number; time = t };
        reply = d.reply;
        replied = record { number = d.replied.number; time = time_of start entries d.replied.number };
      }) (sym asked)
      ∙ ap (λ (t : ℕ). record {
        request = d.request;
        asked = d.asked;
        reply = d.reply;
        replied = record { number = d.replied.number; time = t };
      }) (sym replied)

  -- exchanges that have their times are those of the events with times
  exchanges-timed : (number : ℕ) (events : List Event) (done : List TimedExchange)
      → exchanges_from number events ≡ untimed_all done → AreTimely start entries done
      → timed_from number (timed_in start entries number events) ≡ done
  unfolding timed_in timed_from exchanges_from
  exchanges-timed number [] [] same timely = refl
  exchanges-timed number [] (d ∷ done) same timely = absurd cc
  exchanges-timed number (Replied reply ∷ events) done same timely =
      exchanges-timed (one_more number) events done same timely
  exchanges-timed number (Asked request ∷ events) [] same timely = absurd cc
  exchanges-timed number (Asked request ∷ events) (d ∷ done) same timely =
      let x : Exchange = record {
        request = request;
        number = number;
        reply = next_recorded request.id (one_more number) events;
      } in
      let first : x ≡ untimed d =
      same_head x (untimed d) (exchanges_from (one_more number) events) (untimed_all done) same in
      let later = same_tail x (untimed d) (exchanges_from (one_more number) events) (untimed_all done) same in
      let found = next-timed request.id (one_more number) events
      ∙ ap (option_map stamped) (ap (λ (y : Exchange). y.reply) first) in
      let front : TimedExchange = record {
        request = request;
        asked = record { number = number; time = time_of start entries number };
        reply = d.reply;
        replied = record { number = d.replied.number; time = time_of start entries d.replied.number };
      } in
      ap (λ (o : Option (Reply × Stamp)). answered_first request
      (record { number = number; time = time_of start entries number }) o
      (timed_from (one_more number) (timed_in start entries (one_more number) events))) found
      ∙ ap (λ (xs : List TimedExchange). front ∷ xs) (exchanges-timed (one_more number) events done later timely.1)
      ∙ ap (λ (y : TimedExchange). y ∷ done)
      (same_exchange d request number (ap (λ (y : Exchange). y.request) first) (ap (λ (y : Exchange). y.number) first)
      timely.0.0 timely.0.1)

  -- ---- whole sessions

  explained_of : (events : List Event) → IsWhole (timed start entries events) → Explained any tt events tt
  explained_of events whole = record {
    matching = subst Matching (events-timed first_number events) whole.matching;
    within_window = subst (λ (es : List Event). IsTrue (in_window es)) (events-timed first_number events)
        whole.within_window;
    run = run-any (leading_pairs (events_exchanges events));
  }

  whole_of : (events : List Event) → Explained any tt events tt → IsWhole (timed start entries events)
  whole_of events explained = record {
    matching = subst Matching (sym (events-timed first_number events)) explained.matching;
    within_window = subst (λ (es : List Event). IsTrue (in_window es)) (sym (events-timed first_number events))
        explained.within_window;
  }

  -- ---- what is collected

  abbrev pub closes : Unit {0} → Tree
  closes state = blank

  one_end : HasOneEnd any
  one_end s request reply x y first second = refl

  -- what has no run that is accounted for is no session
  no_session : (transcript : List ℕ) → ((events : List Event) (end : Tree)
      → AccountsFrom any closes tt transcript events end → ⊥)
      → (session : List TimedEvent) → IsSession transcript start entries session → ⊥
  no_session transcript none session is =
      none is.events blank (record {
        events_are = is.recorded;
        last = tt;
        explained = explained_of is.events (subst IsWhole is.session_is is.whole);
        end_is = refl;
      })

  pub lost-at : (transcript : List ℕ) (error : AuditError) → IsPlain error → (IsNoJudgement error → ⊥)
      → StopsFeed any tt transcript error → (session : List TimedEvent)
      → IsSession transcript start entries session → ⊥
  lost-at transcript error plain judged stops =
      no_session transcript
      (no_run any one_end closes tt transcript (feed-lost any one_end closes tt transcript error plain judged stops))

  pub first-at : (transcript : List ℕ) (error : AuditError) → StopsFeed any tt transcript error
      → IsFirstFaultFrom any tt transcript error
  first-at transcript error stops = feed-first any one_end closes tt transcript error stops

  -- ---- event by event

  pub record IsCollecting (transcript : List ℕ) (c : Collected) (records : Reading) : Type 0 where
    pub seen : List Event
    pub ahead : List ℕ
    pub given : HasGiven transcript seen ahead records
    pub holds : Holds start entries seen c

  abbrev pub feeding : (transcript : List ℕ) (c : Collected) (records : Reading) → (at : IsCollecting transcript c records)
      → IsFeeding any tt transcript (request_count at.seen) (kept_as c) records
  feeding transcript c records at = record {
    seen = at.seen;
    ahead = at.ahead;
    given = at.given;
    stands = stands start entries at.seen c at.holds;
    counted = refl;
  }

  pub collecting-start : (transcript : List ℕ) (c : Collected) (records : Reading) → c.done.items ≡ []
      → c.kept.items ≡ [] → c.number ≡ 3 → IsNew transcript records → IsCollecting transcript c records
  collecting-start transcript c records done kept number new = record {
    seen = [];
    ahead = transcript;
    given = new.0;
    holds = holds-start start entries c done kept number;
  }

  pub collecting-next : (transcript : List ℕ) (c : Collected) (records : Reading) (event : Event) (given : Option Event)
      (c_then : Collected) (records_then : Reading) → (at : IsCollecting transcript c records) → given ≡ Some event
      → GaveFrom transcript at.seen given records_then → Notes start entries c event c_then
      → IsCollecting transcript c_then records_then
  collecting-next transcript c records event given c_then records_then at is gave notes =
      let gave_one : GaveFrom transcript at.seen (Some event) records_then =
      subst (λ (o : Option Event). GaveFrom transcript at.seen o records_then) is gave in
      record {
        seen = at.seen ++ event ∷ [];
        ahead = gave_one.0;
        given = gave_one.1;
        holds = notes at.seen at.holds;
      }

  pub collecting-end : (transcript : List ℕ) (c : Collected) (records records_then : Reading) (given : Option Event)
      → (at : IsCollecting transcript c records) → ((event : Event) → given ≡ Some event → ⊥)
      → GaveFrom transcript at.seen given records_then → WasRead start entries transcript c
  collecting-end transcript c records records_then given at none gave =
      record {
        events = at.seen;
        recorded = none_given transcript at.seen given records_then none gave;
        holds = at.holds;
      }

  pub stops-at-fault : (transcript : List ℕ) (c : Collected) (records : Reading) (error : TranscriptError)
      → (at : IsCollecting transcript c records) → FaultOf transcript at.seen error
      → (IsNoJudgement (error_of_transcript error) → ⊥) → StopsFeed any tt transcript (error_of_transcript error)
  stops-at-fault transcript c records error at why judged =
      stops-fault any tt transcript (request_count at.seen) (kept_as c) records error (feeding transcript c records at)
      why judged

  pub stops-at-event : (transcript : List ℕ) (c : Collected) (records records_then : Reading) (event : Event)
      (given : Option Event) (refusal : Refusal) → (at : IsCollecting transcript c records) → given ≡ Some event
      → GaveFrom transcript at.seen given records_then → HasReason start entries c event refusal
      → StopsFeed any tt transcript (error_of_session refusal)
  stops-at-event transcript c records records_then event given refusal at is gave why =
      stops-refused any tt transcript (request_count at.seen) (kept_as c) records records_then event refusal
      (feeding transcript c records at)
      (subst (λ (o : Option Event). GaveFrom transcript at.seen o records_then) is gave) (why at.seen at.holds)

  -- ---- the end

  abbrev fed_of : (transcript : List ℕ) (c : Collected) → (read : WasRead start entries transcript c)
      → WasFed any tt transcript (request_count read.events) (kept_as c)
  fed_of transcript c read = record {
    events = read.events;
    recorded = read.recorded;
    stands = stands start entries read.events c read.holds;
    counted = refl;
  }

  first_of : (waiting : List Waiting) (w : Waiting) → slice_get waiting 0 ≡ Some w
      → slice_get (exchanges_of waiting) 0 ≡ Some (exchange_of w)
  first_of [] w is = absurd cc
  first_of (x ∷ xs) w is = let same : x ≡ w = cc in ap (λ (y : Waiting). Some (exchange_of y)) same

  -- a request has no reply
  pub end-waits : (transcript : List ℕ) (c : Collected) (w : Waiting) → slice_get c.kept.items 0 ≡ Some w
      → WasRead start entries transcript c
      → IsRead start entries transcript (Err (errors.Events (audit_errors.Refused (refusals.Unanswered w.asked.number))))
  end-waits transcript c w first read =
      let fed = fed_of transcript c read in
      let lacks = lacks_reply any tt read.events (kept_as c) (exchange_of w)
      (stands start entries read.events c read.holds) (first_of c.kept.items w first) in (
        no_session transcript
            (end-lost any one_end closes tt transcript (request_count read.events) (kept_as c)
            (refusals.Unanswered w.asked.number) fed lacks),
        end-first any one_end closes tt transcript (request_count read.events) (kept_as c)
            (refusals.Unanswered w.asked.number) fed lacks,
      )

  -- the events of a session are those that were read
  one_record : (transcript : List ℕ) (c : Collected) (read : WasRead start entries transcript c)
      (session : List TimedEvent) (is : IsSession transcript start entries session) → is.events ≡ read.events
  one_record transcript c read session is =
      records_are_one_lem is.events read.events transcript is.recorded read.recorded

  pub end-untimed : (transcript : List ℕ) (c : Collected) → length entries + 1 < c.number
      → WasRead start entries transcript c → IsRead start entries transcript (Err (errors.Untimed (length entries + 1)))
  end-untimed transcript c few read = (
    λ session is.
        let same = one_record transcript c read session is in
        absurd (omega (arith, few, read.holds.number, is.times, ap number_after_events same)),
    (read.events, read.recorded, refl, omega (arith, few, read.holds.number)),
  )

  pub end-spare : (transcript : List ℕ) (c : Collected) → c.number ≤ length entries
      → WasRead start entries transcript c → IsRead start entries transcript (Err (errors.Spare c.number))
  end-spare transcript c many read = (
    λ session is.
        let same = one_record transcript c read session is in
        absurd (omega (arith, many, read.holds.number, is.times, ap number_after_events same)),
    (read.events, read.recorded, read.holds.number, omega (arith, many, read.holds.number)),
  )

  nothing_kept : (waiting : List Waiting) → slice_get waiting 0 ≡ None → slice_get (exchanges_of waiting) 0 ≡ None
  nothing_kept [] is = refl
  nothing_kept (w ∷ waiting) is = absurd cc

  no_exchanges : (waiting : List Waiting) → slice_get waiting 0 ≡ None → exchanges_of waiting ≡ []
  no_exchanges [] is = refl
  no_exchanges (w ∷ waiting) is = absurd cc

  append_none : (xs ys : List Exchange) → ys ≡ [] → xs ++ ys ≡ xs
  append_none [] ys is = is
  append_none (x ∷ xs) ys is = ap (λ (zs : List Exchange). x ∷ zs) (append_none xs ys is)

  pub end-read : (transcript : List ℕ) (c : Collected) → slice_get c.kept.items 0 ≡ None
      → length entries + 1 ≡ c.number → WasRead start entries transcript c
      → IsRead start entries transcript (Ok c.done.items)
  end-read transcript c none count read =
      let h = read.holds in
      let settled = explained-settled any tt read.events (kept_as c) (stands start entries read.events c h)
      (nothing_kept c.kept.items none) in
      let all : recorded_exchanges read.events ≡ untimed_all c.done.items =
      h.all ∙ append_none (untimed_all c.done.items) (exchanges_of c.kept.items) (no_exchanges c.kept.items none) in (
        timed start entries read.events,
        record {
          events = read.events;
          recorded = read.recorded;
          times = count ∙ h.number;
          session_is = refl;
          whole = whole_of read.events settled;
        },
        sym (exchanges-timed first_number read.events c.done.items all h.done_timely),
      )

  -- what is refused at the end is no session
  pub end-refused : (records : Reading) (c : Collected) (result : Result (List TimedExchange) SessionError)
      → ((transcript : List ℕ) → WasRead start entries transcript c → IsRead start entries transcript result)
      → ((transcript : List ℕ) → IsNew transcript records → WasRead start entries transcript c)
      → IfErr result (λ error. (IsUnread error → ⊥) → (transcript : List ℕ) → IsNew transcript records
      → (session : List TimedEvent) → IsSession transcript start entries session → ⊥)
  end-refused records c (Ok exchanges) told was = tt
  end-refused records c (Err error) told was = λ judged transcript new. (told transcript (was transcript new)).0
