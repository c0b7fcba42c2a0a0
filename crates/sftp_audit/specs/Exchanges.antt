-- The exchanges of a session: each request in the order asked, with its reply if it came, and the numbers of their
-- records. Numbers of records are this profile's own.
use Rattle.std.specs.Prelude.{◌==◌, ◌&&◌, ◌||◌, not, ℕ, Bool, false, if◌then◌else◌, List, [], ◌∷◌, map}
use Rattle.std.specs.Prelude.{Option, Some, None, is_some, IsTrue}
use Rattle.std.specs.List.{AllByRecursion}
use Rattle.std.specs.Option.{option_map}
use Rattle.sftp_packets.specs.declared.packets.Reply.{Reply}
use Rattle.sftp_transcript.specs.declared.events.Event.{Event}
use Rattle.sftp_transcript.specs.declared.events.Event.TheVariants.{Asked, Replied}
use Rattle.sftp_transcript.specs.Sound.{first_number}
use Rattle.sftp_transcript.specs.Explained as ledgers
use Rattle.sftp_streams.specs.Streams.{one_more}
use Rattle.sftp_audit.specs.declared.exchanges.RecordedReply.{RecordedReply}
use Rattle.sftp_audit.specs.declared.exchanges.Exchange.{Exchange}

-- ---- the exchanges of events, where the first event's record has a number

-- the next reply to an id
unfoldable pub next_recorded : ℕ → ℕ → List Event → Option RecordedReply
next_recorded id number [] = None
next_recorded id number (Asked request ∷ events) = next_recorded id (one_more number) events
next_recorded id number (Replied reply ∷ events) =
    if reply.id == id then Some (record { reply = reply; number = number })
    else next_recorded id (one_more number) events

-- each request in the order asked, with the next reply to its id, if there is one
unfoldable pub exchanges_from : ℕ → List Event → List Exchange
exchanges_from number [] = []
exchanges_from number (Asked request ∷ events) =
    record { request = request; number = number; reply = next_recorded request.id (one_more number) events }
    ∷ exchanges_from (one_more number) events
exchanges_from number (Replied reply ∷ events) = exchanges_from (one_more number) events

-- those of a session
abbrev pub recorded_exchanges : List Event → List Exchange
recorded_exchanges events = exchanges_from first_number events

-- ---- settled and unsettled

abbrev pub is_answered : Exchange → Bool
is_answered exchange = is_some exchange.reply

-- from the first request without a reply on
unfoldable pub unsettled : List Exchange → List Exchange
unsettled [] = []
unsettled (exchange ∷ exchanges) = if is_answered exchange then unsettled exchanges else exchange ∷ exchanges

-- each of them has its reply
abbrev pub AreAnswered : List Exchange → Type 0
AreAnswered exchanges = AllByRecursion (λ exchange. IsTrue (is_answered exchange)) exchanges

-- the request is of this id, and has no reply
abbrev pub waits_for : ℕ → Exchange → Bool
waits_for id exchange = not (is_answered exchange) && exchange.request.id == id

-- one of them is of this id, and has no reply
unfoldable pub is_awaited : ℕ → List Exchange → Bool
is_awaited id [] = false
is_awaited id (exchange ∷ exchanges) = waits_for id exchange || is_awaited id exchanges

-- the request of the reply's id that has none gets it
abbrev pub answered_by : RecordedReply → Exchange → Exchange
answered_by recorded exchange =
    if waits_for recorded.reply.id exchange
    then record { request = exchange.request; number = exchange.number; reply = Some recorded } else exchange

abbrev pub with_reply : RecordedReply → List Exchange → List Exchange
with_reply recorded exchanges = map (answered_by recorded) exchanges

-- ---- without the numbers

abbrev pub reply_of : RecordedReply → Reply
reply_of recorded = recorded.reply

abbrev pub bare : Exchange → ledgers.Exchange
bare exchange = (exchange.request, option_map reply_of exchange.reply)

abbrev pub ledger_of : List Exchange → List ledgers.Exchange
ledger_of exchanges = map bare exchanges
