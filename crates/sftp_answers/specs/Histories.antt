-- What happens where a server answers each request before it takes the next one. This profile's own.
use Rattle.std.specs.Prelude.{◌≡◌, List, [], ◌∷◌}
use Rattle.std.specs.List.{AllByRecursion}
use Rattle.sftp_transcript.specs.declared.events.Event.TheVariants.{Asked, Replied}
use Rattle.sftp_joint.specs.Deeds.{Happening, did, left, Deed, answered, departed}

-- each request is asked and answered, and then the next thing is done
unfoldable pub happened : List Deed → List Happening
happened [] = []
happened (answered client request reply ∷ deeds) =
    did client (Asked request) ∷ did client (Replied reply) ∷ happened deeds
happened (departed client ∷ deeds) = left client ∷ happened deeds

-- a reply has the id of its request
abbrev pub HasItsId : Deed → Type 0
HasItsId (answered client request reply) = reply.id ≡ request.id
HasItsId (departed client) = Unit {0}

abbrev pub HaveTheirIds : List Deed → Type 0
HaveTheirIds deeds = AllByRecursion HasItsId deeds
