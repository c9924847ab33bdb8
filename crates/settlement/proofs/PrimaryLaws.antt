-- The laws of shares, of a primary and the tickets that share it.
use Prim.Native.Nat.{ℕ, ◌+◌, ◌-◌, ◌*◌, ◌≤◌, ◌<◌, ◌^◌, min}
use native.Mathlib.Omega.{arith}
use mathlib.Core.Path.{◌≡◌, subst⁻¹}
use mathlib.Core.List.{List, map, zip_with}
use lib.ListN.{length, set, get_or, take}
use Rattle.std.specs.List as List_std
use Rattle.std.specs.List.{range_with_len}
use Rattle.sale.specs.Kinds.{number_of}
use Rattle.prizes.specs.Bounds.{Sharing, Winning}
use Rattle.prizes.specs.Jackpots.{share_of, shares_from}
use Rattle.prizes.proofs.ShareLaws.{whole_shares}
use Rattle.settlement.specs.Passing.{full_of}
use Rattle.settlement.specs.Sharing.{ways_ahead}
use Rattle.settlement.specs.Sharers.{sharer_at, sharers, share_given}
use Rattle.settlement.specs.declared.primary.Primary.{Primary}
use Rattle.settlement.proofs.JoinedTables.{joined_to}
use Rattle.settlement.proofs.SharingLaws.{ahead_here, ahead_ranged, ahead_within, figures_ranged, sharing_at, share_most, whole_so_far, given_none, given_next, given_more, given_all}

module _ (primary : Primary) where
  abbrev words : List ℕ
  words = primary.rows.now

  abbrev full : List ℕ
  full = full_of primary.ways.now

  abbrev j : ℕ
  j = number_of primary.jackpot

  abbrev live : ℕ
  live = length primary.ways.now

  -- ---- the ways that rank before a way

  abbrev pub ahead_at : ℕ → ℕ → ℕ → ℕ
  ahead_at place stake = ahead_here words full j (record { place = place; stake = stake })

  pub ahead_together : (place stake : ℕ) → List_std.sum (map (ahead_at place stake) (range_with_len 0 live)) ≡ ways_ahead (sharers primary) place stake
  ahead_together place stake = ahead_ranged words full j (record { place = place; stake = stake }) live

  pub ahead_fits : (place stake : ℕ) → ways_ahead (sharers primary) place stake < 2 ^ 64
  ahead_fits place stake =
      omega (
        arith,
        ahead_within words full j live primary.shared.entered (record { place = place; stake = stake }) live (omega arith),
        primary.shared.entered.few,
      )

  -- ---- shares

  -- with no odd cent to give
  abbrev pub share_rounded : ℕ → ℕ
  share_rounded i = (sharer_at primary i).count * share_of primary.cents primary.stakes (sharer_at primary i).stake

  abbrev pub shares_given : ℕ → List ℕ
  shares_given odd = shares_from odd primary.cents primary.stakes (sharers primary)

  module _ (won : 0 < primary.stakes) where
    -- of winning ways that were read
    pub winning_read : (i count stake : ℕ) → i < live → count ≡ (sharer_at primary i).count → stake ≡ (sharer_at primary i).stake
        → (count ≡ 0 → ⊥) → Winning primary.cents primary.stakes count stake
    winning_read i count stake h counted staked some =
        record {
          sharing = subst⁻¹ (λ n. Sharing primary.cents primary.stakes n stake) counted
              (subst⁻¹ (Sharing primary.cents primary.stakes (sharer_at primary i).count) staked
              (sharing_at words full j live primary.cents primary.stakes primary.shared won i h));
          some = omega (arith, some);
        }

    pub share_fits : (i odd room : ℕ) → i < live → room < 2 ^ 63 → room + share_given primary odd i < 2 ^ 64
    share_fits i odd room h small =
        omega (
          arith,
          share_most words full j live primary.cents primary.stakes primary.shared won i (odd - ways_ahead (sharers primary) i (sharer_at primary i).stake) h,
          primary.shared.pool,
        )

    -- the rounded shares together
    pub rounded_together : List_std.sum (map share_rounded (range_with_len 0 live)) ≡ whole_shares primary.cents primary.stakes (sharers primary)
    rounded_together = figures_ranged words full j (λ w. w.count * share_of primary.cents primary.stakes w.stake) live

    pub rounded_within : List_std.sum (map share_rounded (range_with_len 0 live)) ≤ primary.cents
    rounded_within =
        omega (arith, rounded_together, whole_so_far words full j live primary.cents primary.stakes primary.shared won live (omega arith))

  -- ---- shares joined to what each ticket is paid

  module _ (odd : ℕ) (ps : List ℕ) where
    pub shared_none : ps ≡ joined_to ps (take 0 (shares_given odd))
    shared_none = given_none words full j odd primary.cents primary.stakes live ps

    pub shared_next : (paid : List ℕ) (i : ℕ) → i ≤ live → paid ≡ joined_to ps (take i (shares_given odd)) → get_or paid i 0 ≡ get_or ps i 0
    shared_next = given_next words full j odd primary.cents primary.stakes live ps

    pub shared_more : (paid : List ℕ) (i share : ℕ) → i < live → paid ≡ joined_to ps (take i (shares_given odd)) → share ≡ share_given primary odd i
        → set paid i (get_or paid i 0 + share) ≡ joined_to ps (take (i + 1) (shares_given odd))
    shared_more = given_more words full j odd primary.cents primary.stakes live ps

    pub shared_all : (paid : List ℕ) → paid ≡ joined_to ps (take live (shares_given odd)) → length ps ≡ live → paid ≡ zip_with ◌+◌ ps (shares_given odd)
    shared_all = given_all words full j odd primary.cents primary.stakes live ps
