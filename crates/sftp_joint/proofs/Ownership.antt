-- Whose handles are whose, for any states and steps.
use Rattle.std.proofs.Common.{◌≡◌, ◌≢◌, ◌⊎◌, inl, inr, ℕ, List, [], ◌∷◌, refl, sym, ap, ◌∙◌}
use Rattle.std.proofs.Common.{◌^◌, ◌<◌, Option, Some, None, subst, take, drop}
use Rattle.std.proofs.lemmas.List.{take_at, drop_at}
use Rattle.std.proofs.lemmas.Option.{same_Some}
use Rattle.std.specs.Option.{option_map}
use Rattle.std.specs.Int.{w32, from_be_bytes}
use Rattle.sftp_strings.specs.Strings.{uint32}
use Rattle.sftp_strings.proofs.Bytes.{wide32}
use Rattle.sftp_packets.specs.declared.requests.Ask.{Ask}
use Rattle.sftp_packets.specs.declared.requests.Ask.TheVariants as asks
use Rattle.sftp_packets.specs.declared.replies.Answer.{Answer}
use Rattle.sftp_packets.specs.declared.replies.Answer.TheVariants as answers
use Rattle.sftp_packets.specs.declared.packets.Request.{Request}
use Rattle.sftp_packets.specs.declared.packets.Reply.{Reply}
use Rattle.sftp_packets.specs.Requests.{asked_handle}
use Rattle.sftp_transcript.specs.Explained.{StepOf}
use Rattle.sftp_joint.specs.Joint.{joint_handle, joint_ask, joint_answer, joint_request, joint_reply}
use Rattle.sftp_joint.specs.Deeds.{Deed, answered, departed, LeaveOf, RunTogether, WasGiven, IsQuiet}

-- ==== Joint names.

pub handle-injective : (c d : ℕ) (h k : List ℕ) → c < 2 ^ 32 → d < 2 ^ 32 → joint_handle c h ≡ joint_handle d k
    → (c ≡ d) × (h ≡ k)
handle-injective c d h k fits_c fits_d same =
    let front : uint32 c ≡ uint32 d =
    sym (take_at (uint32 c) h 4 (wide32.len c)) ∙ (ap (take 4) same ∙ take_at (uint32 d) k 4 (wide32.len d)) in
    let back : h ≡ k =
    sym (drop_at (uint32 c) h 4 (wide32.len c)) ∙ (ap (drop 4) same ∙ drop_at (uint32 d) k 4 (wide32.len d)) in
    (sym (wide32.again c fits_c) ∙ (ap (from_be_bytes w32) front ∙ wide32.again d fits_d), back)

asked-joint : (d : ℕ) (ask : Ask) → asked_handle (joint_ask d ask) ≡ option_map (joint_handle d) (asked_handle ask)
asked-joint d (asks.Close handle) = refl
asked-joint d (asks.Read handle offset len) = refl
asked-joint d (asks.Write handle offset bytes) = refl
asked-joint d (asks.Fstat handle) = refl
asked-joint d (asks.Fsetstat handle attrs) = refl
asked-joint d (asks.Readdir handle) = refl
asked-joint d (asks.Fsync handle) = refl
asked-joint d (asks.Open path pflags attrs) = refl
asked-joint d (asks.Lstat path) = refl
asked-joint d (asks.Setstat path attrs) = refl
asked-joint d (asks.Opendir path) = refl
asked-joint d (asks.Remove path) = refl
asked-joint d (asks.Mkdir path attrs) = refl
asked-joint d (asks.Rmdir path) = refl
asked-joint d (asks.Realpath path) = refl
asked-joint d (asks.Stat path) = refl
asked-joint d (asks.Rename oldpath newpath) = refl
asked-joint d (asks.Readlink path) = refl
asked-joint d (asks.Symlink targetpath linkpath) = refl
asked-joint d (asks.PosixRename oldpath newpath) = refl
asked-joint d (asks.Hardlink oldpath newpath) = refl
asked-joint d asks.Limits = refl
asked-joint d (asks.Unknown name rest) = refl

-- a name that a client's request has is one of its own
named-joint : (c d : ℕ) (h : List ℕ) (named : Option (List ℕ)) → c < 2 ^ 32 → d < 2 ^ 32
    → option_map (joint_handle d) named ≡ Some (joint_handle c h) → d ≡ c
named-joint c d h None fits_c fits_d is = absurd cc
named-joint c d h (Some k) fits_c fits_d is =
    (handle-injective d c k h fits_d fits_c (same_Some (joint_handle d k) (joint_handle c h) is)).0

name_in : Answer → List ℕ
name_in (answers.Handle name) = name
name_in other = []

-- so is one that it is given
given-joint : (c d : ℕ) (h : List ℕ) (answer : Answer) → c < 2 ^ 32 → d < 2 ^ 32
    → joint_answer d answer ≡ answers.Handle (joint_handle c h) → (d ≡ c) × (answer ≡ answers.Handle h)
unfolding name_in
given-joint c d h (answers.Handle k) fits_c fits_d is =
    let same = handle-injective d c k h fits_d fits_c (ap name_in is) in
    (same.0, ap (λ (name : List ℕ). answers.Handle name) same.1)
given-joint c d h (answers.Status code message language) fits_c fits_d is = absurd cc
given-joint c d h (answers.Data bytes) fits_c fits_d is = absurd cc
given-joint c d h (answers.Name items) fits_c fits_d is = absurd cc
given-joint c d h (answers.Attrs attrs) fits_c fits_d is = absurd cc
given-joint c d h (answers.Extended bytes) fits_c fits_d is = absurd cc

-- ==== States in which something is open under names.

-- What is open under names in good states, and what a step and a leave change of that. `value` holds of the requests that
-- the code has.
pub record Premises {S O : Type 0} (open_in : S → List ℕ → Option O) (step : StepOf S) (leave : LeaveOf S)
    (good : S → Type 0) (value : Request → Type 0) : Type 0 where
  -- a step changes at most what is open under the name that its request has and under the one that its reply gives
  pub frame : (s end : S) (request : Request) (reply : Reply) (name : List ℕ) → good s → step s request reply end
      → (asked_handle request.ask ≡ Some name → ⊥) → (reply.answer ≡ answers.Handle name → ⊥)
      → open_in end name ≡ open_in s name
  -- only a reply that gives a name opens something under it
  pub given : (s end : S) (request : Request) (reply : Reply) (name : List ℕ) → good s → step s request reply end
      → open_in end name ≢ None → (open_in s name ≢ None) ⊎ (reply.answer ≡ answers.Handle name)
  -- a leave closes what the client has open, and nothing else
  pub closed : (s : S) (client : ℕ) (h : List ℕ) → good s → open_in (leave client s) (joint_handle client h) ≡ None
  pub others : (s : S) (client other : ℕ) (h : List ℕ) → good s → client < 2 ^ 32 → other < 2 ^ 32 → client ≢ other
      → open_in (leave client s) (joint_handle other h) ≡ open_in s (joint_handle other h)
  pub fewer : (s : S) (client : ℕ) (name : List ℕ) → good s → open_in (leave client s) name ≢ None
      → open_in s name ≢ None
  -- good states stay good
  pub stays_good : (s end : S) (request : Request) (reply : Reply) → good s → value request
      → step s request reply end → good end
  pub good_leave : (s : S) (client : ℕ) → good s → good (leave client s)

-- each client has a number of 32 bits, and each request is a value
abbrev pub AreValues : (Request → Type 0) → List Deed → Type 0
AreValues value [] = Unit {0}
AreValues value (answered client request reply ∷ deeds) =
    (client < 2 ^ 32) × value (joint_request client request) × AreValues value deeds
AreValues value (departed client ∷ deeds) = (client < 2 ^ 32) × AreValues value deeds

module _ {S O : Type 0} (open_in : S → List ℕ → Option O) (step : StepOf S) (leave : LeaveOf S)
    (good : S → Type 0) (value : Request → Type 0) (premises : Premises open_in step leave good value) where
  -- what one client does changes nothing of what is open under another one's handles
  pub kept-apart : (s end : S) (c d : ℕ) (h : List ℕ) (request : Request) (reply : Reply) → good s → c < 2 ^ 32
      → d < 2 ^ 32 → d ≢ c → step s (joint_request d request) (joint_reply d reply) end
      → open_in end (joint_handle c h) ≡ open_in s (joint_handle c h)
  kept-apart s end c d h request reply is_good fits_c fits_d apart done =
      premises.frame s end (joint_request d request) (joint_reply d reply) (joint_handle c h) is_good done
      (λ asked. apart (named-joint c d h (asked_handle request.ask) fits_c fits_d
      (sym (asked-joint d request.ask) ∙ asked)))
      (λ given. apart (given-joint c d h reply.answer fits_c fits_d given).0)

  -- what is open under a client's handle was open at the start, or that client was given the handle
  pub was-given : (s end : S) (deeds : List Deed) (c : ℕ) (h : List ℕ) → good s → c < 2 ^ 32 → AreValues value deeds
      → RunTogether step leave s deeds end → open_in end (joint_handle c h) ≢ None
      → (open_in s (joint_handle c h) ≢ None) ⊎ WasGiven c h deeds
  unfolding WasGiven
  was-given s end [] c h is_good fits values run there =
      inl (subst (λ (s : S). open_in s (joint_handle c h) ≢ None) run there)
  was-given s end (answered d request reply ∷ deeds) c h is_good fits values run there =
      let still = premises.stays_good s run.0 (joint_request d request) (joint_reply d reply) is_good values.1 run.1 in
      elim (was-given run.0 end deeds c h still fits values.2 run.2 there) [
        | inl before ↦
            elim (premises.given s run.0 (joint_request d request) (joint_reply d reply) (joint_handle c h) is_good run.1 before) [
              | inl earlier ↦ inl earlier
              | inr now ↦ inr (inl (given-joint c d h reply.answer fits values.0 now))
            ]
        | inr later ↦ inr (inr later)
      ]
  was-given s end (departed d ∷ deeds) c h is_good fits values run there =
      elim (was-given (leave d s) end deeds c h (premises.good_leave s d is_good) fits values.1 run there) [
        | inl before ↦ inl (premises.fewer s d (joint_handle c h) is_good before)
        | inr later ↦ inr later
      ]

  -- whatever others do, and whoever leaves, a client's handles stay as they are
  pub all-kept : (s end : S) (deeds : List Deed) (c : ℕ) (h : List ℕ) → good s → c < 2 ^ 32 → AreValues value deeds
      → IsQuiet c deeds → RunTogether step leave s deeds end
      → open_in end (joint_handle c h) ≡ open_in s (joint_handle c h)
  all-kept s end [] c h is_good fits values quiet run = ap (λ (s : S). open_in s (joint_handle c h)) run
  all-kept s end (answered d request reply ∷ deeds) c h is_good fits values quiet run =
      let still = premises.stays_good s run.0 (joint_request d request) (joint_reply d reply) is_good values.1 run.1 in
      all-kept run.0 end deeds c h still fits values.2 quiet.1 run.2
      ∙ kept-apart s run.0 c d h request reply is_good fits values.0 quiet.0 run.1
  all-kept s end (departed d ∷ deeds) c h is_good fits values quiet run =
      all-kept (leave d s) end deeds c h (premises.good_leave s d is_good) fits values.1 quiet.1 run
      ∙ premises.others s d c h is_good values.0 fits quiet.0
