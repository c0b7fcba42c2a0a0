-- Bytes that are read from the front of a stream.
use Rattle.std.proofs.Common.{◌≡◌, ℕ, List, [], ◌∷◌, ◌++◌, refl, sym, ap, ◌∙◌, append_assoc, length}
use Rattle.std.proofs.lemmas.List.{append-nil}
use Rattle.sftp_infer.specs.declared.texts.Part.{Part}
use Rattle.sftp_infer.specs.Texts.{joined, part_bytes}

pub nothing_left : (session zeros rest : List ℕ) (parts : List Part) → rest ≡ [] → parts ≡ []
    → rest ++ joined session zeros parts ≡ []
unfolding joined
nothing_left session zeros [] [] none last = refl
nothing_left session zeros [] (part ∷ parts) none last = absurd cc
nothing_left session zeros (byte ∷ bytes) parts none last = absurd cc

pub read_on : (old rest front behind tail : List ℕ) → rest ++ tail ≡ old → rest ≡ front ++ behind
    → old ≡ front ++ (behind ++ tail)
read_on old rest front behind tail kept parts =
    sym kept ∙ ap (λ (l : List ℕ). l ++ tail) parts ∙ append_assoc front behind tail

pub at_end : (old front rest : List ℕ) → old ≡ front ++ rest → old ≡ [] → rest ≡ []
at_end old [] rest parts none = sym parts ∙ none
at_end old (byte ∷ bytes) rest parts none = absurd cc

-- ---- all bytes

pub whole_on : (session zeros held items some new total : List ℕ) (left behind : List Part) (part : Part)
    → items ++ joined session zeros left ≡ total → left ≡ part ∷ behind → held ≡ zeros
    → some ≡ part_bytes session held part → new ≡ items ++ some → new ++ joined session zeros behind ≡ total
unfolding joined
whole_on session zeros held items some new total left behind part before split same is grown =
    let next : joined session zeros left ≡ some ++ joined session zeros behind =
    ap (λ (parts : List Part). joined session zeros parts) split
    ∙ ap (λ (l : List ℕ). part_bytes session l part ++ joined session zeros behind) (sym same)
    ∙ ap (λ (l : List ℕ). l ++ joined session zeros behind) (sym is) in
    ap (λ (l : List ℕ). l ++ joined session zeros behind) grown
    ∙ append_assoc items some (joined session zeros behind)
    ∙ ap (λ (l : List ℕ). items ++ l) (sym next) ∙ before

pub whole_end : (session zeros items total : List ℕ) (left : List Part) → items ++ joined session zeros left ≡ total
    → length left ≡ 0 → items ≡ total
unfolding joined
whole_end session zeros items total [] before none = sym (append-nil items) ∙ before
whole_end session zeros items total (part ∷ parts) before none = absurd cc
