-- Bytes that are written part by part.
use Rattle.std.proofs.Common.{◌≡◌, ℕ, ◌+◌, ◌-◌, ◌≤◌, List, ◌++◌, take, drop, replicate, Option}
use Rattle.std.proofs.Common.{refl, ap, sym, subst, ◌∙◌, arith, take-append-drop}
use Rattle.std.proofs.lemmas.List.{take-replicate, drop-replicate}
use Rattle.std.specs.Io.KnownBytes.{Appends}
use Rattle.sftp_streams.specs.Streams.{AppendsPart}
use Rattle.sftp_streams.proofs.Buffers.{Appends-then, AppendsPart-first, AppendsPart-then}
use Rattle.sftp_contents.proofs.Whole.{join}

so-far : (xs part : List ℕ) (done here : ℕ) → part ≡ take here (drop done xs)
    → take done xs ++ part ≡ take (done + here) xs
so-far xs part done here is = ap (λ p. take done xs ++ p) is ∙ join xs done here (done + here) refl

pub written-more : (a b c : Option (List ℕ)) (xs part : List ℕ) (done here : ℕ) → Appends a b (take done xs)
    → Appends b c part → part ≡ take here (drop done xs) → Appends a c (take (done + here) xs)
written-more a b c xs part done here first next is =
    subst (Appends a c) (so-far xs part done here is) (Appends-then a b c (take done xs) part first next)

pub failed-within : (a b c : Option (List ℕ)) (xs part : List ℕ) (done here : ℕ) → Appends a b (take done xs)
    → AppendsPart b c part → part ≡ take here (drop done xs) → AppendsPart a c xs
failed-within a b c xs part done here first next is =
    subst (AppendsPart a c)
    (ap (λ p. p ++ drop (done + here) xs) (so-far xs part done here is) ∙ take-append-drop (done + here) xs)
    (AppendsPart-first a c (take done xs ++ part) (drop (done + here) xs)
    (AppendsPart-then a b c (take done xs) part first next))

-- zeros of a block are those that are next
pub next-zeros : (block count done here : ℕ) → here ≤ block → here ≤ count - done
    → take here (replicate {A = ℕ} block 0) ≡ take here (drop done (replicate {A = ℕ} count 0))
next-zeros block count done here within left =
    take-replicate here block 0 within ∙ sym (take-replicate here (count - done) 0 left)
    ∙ sym (ap (take here) (drop-replicate done count 0))
