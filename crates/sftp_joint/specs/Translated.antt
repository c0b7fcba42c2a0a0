-- One session inside for several clients' sessions outside: while a request is unanswered, its id inside stands for its
-- client and its id outside. This profile's own.
use Rattle.std.specs.Prelude.{◌≡◌, ◌==◌, ℕ, List, [], ◌∷◌, Option, Some, None, if◌then◌else◌}
use Rattle.std.specs.Option.{option_map}
use Rattle.sftp_packets.specs.declared.requests.Ask.{Ask}
use Rattle.sftp_packets.specs.declared.replies.Answer.{Answer}
use Rattle.sftp_packets.specs.declared.packets.Reply.{Reply}
use Rattle.sftp_transcript.specs.declared.events.Event.{Event}
use Rattle.sftp_transcript.specs.declared.events.Event.TheVariants.{Asked, Replied}
use Rattle.sftp_transcript.specs.Explained.{Exchange}
use Rattle.sftp_joint.specs.Joint.{Moment, joint_ask, joint_answer}

-- a moment with the id inside
abbrev pub Inside : Type 0
Inside = ℕ × Moment

-- the event with the id inside and the joint handle
abbrev pub inner_event : ℕ → ℕ → Event → Event
inner_event id client (Asked request) = Asked (record { id = id; ask = joint_ask client request.ask })
inner_event id client (Replied reply) = Replied (record { id = id; answer = joint_answer client reply.answer })

-- the events of the session inside
unfoldable pub inner : List Inside → List Event
inner [] = []
inner ((id, moment) ∷ insides) = inner_event id moment.0 moment.1 ∷ inner insides

-- the history
unfoldable pub outer : List Inside → List Moment
outer [] = []
outer ((id, moment) ∷ insides) = moment ∷ outer insides

-- the client and the id for which an id inside stands, if it stands for any
abbrev pub Table : Type 0
Table = ℕ → Option (ℕ × ℕ)

-- before the first request
abbrev pub nothing_stands : Table
nothing_stands id = None

-- where an id inside is given to a client's id
abbrev pub with_id : ℕ → ℕ × ℕ → Table → Table
with_id id whose table other = if other == id then Some whose else table other

-- where an id inside stands for nothing more
abbrev pub without_id : ℕ → Table → Table
without_id id table other = if other == id then None else table other

-- each id inside is given where it stands for nothing, and no other stands for the same; it stands for the request that
-- its reply answers
unfoldable pub AreTranslated : Table → List Inside → Table → Type 0
AreTranslated table [] end = (id : ℕ) → table id ≡ end id
AreTranslated table ((id, (client, Asked request)) ∷ insides) end =
    (table id ≡ None) × ((other : ℕ) → table other ≡ Some (client, request.id) → ⊥)
    × AreTranslated (with_id id (client, request.id) table) insides end
AreTranslated table ((id, (client, Replied reply)) ∷ insides) end =
    (table id ≡ Some (client, reply.id)) × AreTranslated (without_id id table) insides end

-- an exchange without its ids
abbrev pub without_ids : Exchange → Ask × Option Answer
without_ids exchange = (exchange.0.ask, option_map (λ (p : Reply). p.answer) exchange.1)
