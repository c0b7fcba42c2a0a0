-- The request for the limits: no cause refuses it, it leaves the state, and its reply has the tree's limits, which fit.
use Rattle.sftp_handles.proofs.Imports.{◌≡◌, ℕ, true, List, refl, sym, subst, Answer, limits, no_causes, is_none, led}
use Rattle.sftp_handles.proofs.Imports.{outcome, State, Good, causes, after, told_to, limits_data, Carries, ◌++◌}
use Rattle.sftp_handles.proofs.Imports.{length, arith, uint64, AreBytes, packet_limit, TreeLimits, FitsData, ◌≢◌}
use Rattle.sftp_handles.proofs.Imports.{if◌then◌else◌, min, take, Some, None, ap, ◌∙◌, nat_eq, codes}
use Rattle.sftp_handles.proofs.Imports.{nat_list_eq_equiv, lt-ltb, Ask, Data, same_bytes, get, put, retain, bytes_at}
use Rattle.sftp_handles.proofs.Imports.{when, seen, pins_of, says, answers, step}
use Rattle.sftp_packets.specs.declared.requests.Ask.TheVariants as asks
use Rattle.sftp_handles.specs.Replies.{extends, gives, ended}
use Rattle.sftp_handles.proofs.Good.{good-settled}
use Rattle.sftp_handles.proofs.TotalSteps.{bytes-joined, number-bytes}
use Rattle.std.specs.Cmp.Lexicographic.{unequal}
use Rattle.sftp_handles.specs.Examples.{with_text, reading}
use Rattle.sftp_handles.proofs.Judged.{not-answered}
use Rattle.sftp_handles.proofs.Judged.{done-step}

-- ---- its reply

limits-bytes : (bounds : TreeLimits) → AreBytes (limits_data bounds)
unfolding limits_data
limits-bytes bounds =
    bytes-joined (uint64 packet_limit)
    (uint64 bounds.read_bytes ++ (uint64 bounds.read_bytes ++ uint64 bounds.open_handles))
    (number-bytes 8 packet_limit)
    (bytes-joined (uint64 bounds.read_bytes) (uint64 bounds.read_bytes ++ uint64 bounds.open_handles)
    (number-bytes 8 bounds.read_bytes)
    (bytes-joined (uint64 bounds.read_bytes) (uint64 bounds.open_handles) (number-bytes 8 bounds.read_bytes)
    (number-bytes 8 bounds.open_handles)))

limits-length : (bounds : TreeLimits) → length (limits_data bounds) ≡ 32
unfolding limits_data
limits-length bounds = refl

pub limits-fit : (bounds : TreeLimits) → FitsData (limits_data bounds)
limits-fit bounds =
    let count = limits-length bounds in
    record {
      string = record { bytes_fit = limits-bytes bounds; length_fits = omega (arith, count) };
      short = omega (arith, count);
    }

-- ---- the request

limits-free : (s : State) → is_none (causes s asks.Limits) ≡ true
unfolding causes no_causes
limits-free s = refl

pub limits-still : (s : State) (answer : Answer) → Good s → after s asks.Limits answer ≡ s
unfolding after outcome led told_to
limits-still s answer good = good-settled s good

pub carries-limits : (s : State) (told : List ℕ) → Good s → told ≡ limits_data (limits s.tree)
    → Carries s asks.Limits (extends told)
carries-limits s told good is =
    subst (λ (x : List ℕ). Carries s asks.Limits (extends x)) (sym is)
    (record { free = limits-free s; is = refl; fits = limits-fit (limits s.tree); good = good })

-- ==== How many bytes one READ gives: of a file of 70,000 bytes as many as the tree's limit, and no other number.

abbrev ask : Ask
ask = asks.Read (codes "h") 0 70000

module _ (bounds : TreeLimits) (bytes : List ℕ) (long : length bytes ≡ 70000) where
  abbrev s : State
  s = reading (record (with_text bytes) { limits = bounds })

  abbrev given : List ℕ
  given = take (min 70000 bounds.read_bytes) bytes

  answers-data : (data_given : List ℕ) → answers s ask (Data data_given) ≡ same_bytes given data_given
  unfolding answers seen get
  answers-data data_given =
      ap (λ b. says (if b then gives (bytes_at bounds 0 70000 bytes) else ended) (Data data_given))
      (lt-ltb 0 (length bytes) (omega (arith, long)))

  pub read-given : step s ask (Data given) ≡ Some s
  unfolding causes no_causes when after seen get put retain pins_of
  read-given =
      done-step s ask (Data given) s
      (record { free = refl; answered = answers-data given ∙ nat_list_eq_equiv.refl given; changed = refl })

  pub read-other : (other : List ℕ) → length given ≢ length other → step s ask (Data other) ≡ None
  read-other other differ =
      not-answered s ask (Data other) (answers-data other ∙ unequal nat_eq given other differ) refl
