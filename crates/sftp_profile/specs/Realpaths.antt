-- REALPATH as servers answer it that do not look at the tree, or not at all of it (draft, section 6.11, asks for an
-- absolute path and no more).
use Rattle.std.specs.Prelude.{◌≡◌, ◌==◌, ◌&&◌, ◌||◌, not, ℕ, Bool, true, false, if◌then◌else◌, List, [], ◌∷◌, ◌++◌}
use Rattle.std.specs.Prelude.{length, Option, Some, None}
use Rattle.std.specs.Option.{option_map}
use Rattle.sftp_packets.specs.declared.requests.Ask.{Ask}
use Rattle.sftp_packets.specs.declared.requests.Ask.TheVariants as asks
use Rattle.sftp_packets.specs.declared.replies.Answer.{Answer}
use Rattle.sftp_packets.specs.declared.replies.Answer.TheVariants as replies
use Rattle.sftp_path.specs.Place.{Place, parent, absolute, components, is_absolute, is_name, is_dot, is_dot_dot}
use Rattle.sftp_tree.specs.Tree.{Tree}
use Rattle.sftp_tree.specs.PlaceCauses.{is_none}
use Rattle.sftp_tree.specs.Requests.{causes}
use Rattle.sftp_tree.specs.Told.{text_to}
use Rattle.sftp_handles.specs.Replies.{has_code, is_named}
use Rattle.sftp_profile.specs.BytesRead.{is_refusal}

-- ---- the text of a path without a look at the tree

-- where components lead from a place if nothing is a link: `.` stays, and `..` takes the name before
abbrev pub lexed : Place → List (List ℕ) → Option Place
lexed at [] = Some at
lexed at (component ∷ rest) =
    if is_dot component then lexed at rest else
    if is_dot_dot component then lexed (parent at) rest else
    if is_name component then lexed (at ++ component ∷ []) rest else None

-- the text of the place that a path leads to, if no cause refuses the REALPATH
abbrev pub text_at : Tree → List ℕ → Option (List ℕ)
text_at t path = if is_none (causes t (asks.Realpath path)) then text_to t (asks.Realpath path) else None

-- the path from the root: one that is not absolute comes behind the text of where the empty path leads
abbrev pub full_path : Tree → List ℕ → Option (List ℕ)
full_path t path = if is_absolute path then Some path else option_map (λ home. home ++ 47 ∷ path) (text_at t [])

abbrev pub place_of : Option (List ℕ) → Option Place
place_of (Some path) = lexed [] (components path)
place_of None = None

-- the path's text made absolute
abbrev pub lexical : Tree → List ℕ → Option (List ℕ)
lexical t path = option_map absolute (place_of (full_path t path))

-- ---- answers

-- any one name
abbrev pub has_one_name : Answer → Bool
has_one_name (replies.Name items) = length items == 1
has_one_name other = false

-- the answer says that there is nothing, with any code if codes are free, and so it is
abbrev pub says_absent : Tree → Bool → List ℕ → Answer → Bool
says_absent t frees path answer =
    (has_code 2 answer || frees && is_refusal answer) && not (is_none (causes t (asks.Stat path)))

-- what a REALPATH may be answered, by whether a cause refuses it
abbrev pub is_resolved : Tree → Bool → List ℕ → Answer → Bool → Bool
is_resolved t frees path answer true = has_one_name answer
is_resolved t frees path answer false = is_named (lexical t path) answer || says_absent t frees path answer

abbrev pub passes_realpath : Tree → Bool → Ask → Answer → Bool
passes_realpath t frees (asks.Realpath path) answer =
    is_resolved t frees path answer (not (is_none (causes t (asks.Realpath path))))
passes_realpath t frees other answer = false

-- ---- words of private contracts

-- where a component leads from a place, as `lexed` goes on; if nowhere, `ok` is false
abbrev pub IsEntered : Place → List ℕ → Bool → Place → Type 0
IsEntered at component ok place =
    (rest : List (List ℕ)) → lexed at (component ∷ rest) ≡ (if ok then lexed place rest else None)
