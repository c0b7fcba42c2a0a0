-- Orders of what several clients asked, and what it means that a search found none. This profile's own.
use Rattle.std.specs.Prelude.{◌≡◌, ◌==◌, ℕ, Bool, false, List, [], ◌∷◌, if◌then◌else◌}
use Rattle.std.specs.List.{AllByRecursion}
use Rattle.sftp_packets.specs.declared.packets.Request.{Request}
use Rattle.sftp_packets.specs.declared.packets.Reply.{Reply}
use Rattle.sftp_transcript.specs.Explained.{StepOf}

-- a request with its reply
abbrev pub Pair : Type 0
Pair = Request × Reply

-- with the number of its client
abbrev pub Tagged : Type 0
Tagged = ℕ × Pair

-- what one client has among them
unfoldable pub own : ℕ → List Tagged → List Pair
own client [] = []
own client (t ∷ tagged) = if t.0 == client then t.1 ∷ own client tagged else own client tagged

-- without the clients
unfoldable pub untagged : List Tagged → List Pair
untagged [] = []
untagged (t ∷ tagged) = t.1 ∷ untagged tagged

-- whether two requests may not change places in a state
abbrev pub ClashOf : Type 0 → Type 0
ClashOf S = S → Request → Request → Bool

-- the request clashes with none of these
unfoldable pub IsFreeOf : {S : Type 0} → ClashOf S → S → Request → List Tagged → Type 0
IsFreeOf clash s request [] = Unit {0}
IsFreeOf clash s request (t ∷ tagged) = (clash s t.1.0 request ≡ false) × IsFreeOf clash s request tagged

-- what is left of each client's session: its requests with their replies, in its order
abbrev pub Left : Type 0
Left = ℕ → List Pair

-- the order is one of what is left
abbrev pub IsOrderOf : Left → List Tagged → Type 0
IsOrderOf left tagged = (client : ℕ) → own client tagged ≡ left client

-- ---- when no order is left

-- without the first
abbrev pub behind : List Pair → List Pair
behind [] = []
behind (pair ∷ pairs) = pairs

-- what is left once a client's first request is done
abbrev pub without_first : ℕ → Left → Left
without_first client left other = if other == client then behind (left other) else left other

-- the request clashes with nothing that the other clients have left
abbrev pub IsFreeOfOthers : {S : Type 0} → ClashOf S → S → ℕ → Request → Left → Type 0
IsFreeOfOthers clash s client request left =
    (other : ℕ) → (other == client) ≡ false → AllByRecursion (λ pair. clash s pair.0 request ≡ false) (left other)

-- A search found no order. In each state that it reached, it tried the next request of every client, or that of one
-- client alone, if it clashes with nothing that the others have left; and it reached the end nowhere.
pub data Refuted {S : Type 0} (step : StepOf S) (clash : ClashOf S) : S → Left → Type 0 where
  every : (s : S) (left : Left) (client : ℕ) (pair : Pair) (rest : List Pair) → left client ≡ pair ∷ rest
      → ((other : ℕ) (next : Pair) (later : List Pair) → left other ≡ next ∷ later → (mid : S)
      → step s next.0 next.1 mid → Refuted step clash mid (without_first other left))
      → Refuted step clash s left
  one : (s : S) (left : Left) (client : ℕ) (pair : Pair) (rest : List Pair) → left client ≡ pair ∷ rest
      → IsFreeOfOthers clash s client pair.0 left
      → ((mid : S) → step s pair.0 pair.1 mid → Refuted step clash mid (without_first client left))
      → Refuted step clash s left
