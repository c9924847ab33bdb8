-- The table of the schedules keeps every row of theirs: a test that is computed for every selection and every match below 16 says so there, and from 16 on
-- neither the table nor a schedule pays.
use mathlib.Core.Path.{◌≡◌, refl, sym, ap, ◌∙◌, subst}
use mathlib.Core.Bool.{Bool, true, false, ◌&&◌}
use mathlib.Core.List.{List, []}
use Prim.Native.Nat.{ℕ, suc, ◌+◌, ◌-◌, ◌≤◌, ◌<◌}
use native.Mathlib.Omega.{arith}
use lib.Dec.{T, eqb, leb, ltb, eqb→eq, leb→le, ltb→lt}
use lib.ListN.{length, get_or, take, replicate, get_or-replicate, get_or-eq_default}
use lib.Seq.{get_or-take}
use borrow.Author.Tests.{ltb-true, ltb-false, lt-ltb, le-ltb}
use Rattle.prizes.specs.Schedules.{standard_rows, special_one_rows, special_two_rows, cell}
use Rattle.prizes.specs.ScheduleTable.{start_in, run_in, low_in, prize_by, Keeps, Schedules}
use Rattle.prizes.proofs.TableLaws.{both, all_below, below_at}

module _ (rows : List (List ℕ)) (s m : ℕ) where
  -- a match past the end of its row
  pays_none : length (get_or rows s []) ≤ m → 0 ≡ cell rows s m
  unfolding cell
  pays_none h = sym (get_or-eq_default (get_or rows s []) 0 h)

  -- a selection before the first that has a row, or past the last
  pub no_row_below : (n : ℕ) → take n rows ≡ replicate n [] → s < n → 0 ≡ cell rows s m
  unfolding cell
  no_row_below n e h = ap (λ row. get_or row m 0) (sym (sym (get_or-take n rows s [] h) ∙ ap (λ l. get_or l s []) e ∙ get_or-replicate n s [] [] h))

  pub no_row_above : length rows ≤ s → 0 ≡ cell rows s m
  unfolding cell
  no_row_above h = ap (λ row. get_or row m 0) (sym (get_or-eq_default rows [] h))

module _ (table : List ℕ) (place s : ℕ) (rows : List (List ℕ)) where
  abbrev word : ℕ
  word = get_or table place 0

  abbrev is_word : Bool
  is_word = ltb place 132 && ltb (start_in word + low_in word + (s - run_in word)) 132

  -- neither the selection nor its row goes beyond 15 matches
  abbrev is_short : Bool
  is_short = ltb s 16 && leb (length (get_or rows s [])) 16

  abbrev is_prize : ℕ → Bool
  is_prize m = eqb (prize_by table word s m) (cell rows s m)

  abbrev is_kept : Bool
  is_kept = (is_word && is_short) && all_below 16 is_prize

  module _ (t : T is_kept) where
    right : T (is_word && is_short) × T (all_below 16 is_prize)
    right = both (is_word && is_short) (all_below 16 is_prize) t

    in_table : T (ltb place 132) × T (ltb (start_in word + low_in word + (s - run_in word)) 132)
    in_table = both (ltb place 132) (ltb (start_in word + low_in word + (s - run_in word)) 132) (both is_word is_short right.0).0

    short : T (ltb s 16) × T (leb (length (get_or rows s [])) 16)
    short = both (ltb s 16) (leb (length (get_or rows s [])) 16) (both is_word is_short right.0).1

    far : (m : ℕ) → 16 ≤ m → prize_by table word s m ≡ cell rows s m
    far m h =
        let row = leb→le (length (get_or rows s [])) 16 short.1 in
        rw (le-ltb m (run_in word) (omega arith), lt-ltb s m (omega (arith, ltb→lt s 16 short.0))) (pays_none rows s m (omega arith))

    near : (m : ℕ) → m < 16 → prize_by table word s m ≡ cell rows s m
    near m h = eqb→eq (prize_by table word s m) (cell rows s m) (below_at 16 is_prize right.1 m h)

    kept : Keeps table place s rows
    kept =
        record {
          word = record { few = ltb→lt place 132 in_table.0; inside = ltb→lt _ 132 in_table.1 };
          prizes = λ m. either m (ltb m 16) refl;
        }
      where
        either : (m : ℕ) (b : Bool) → ltb m 16 ≡ b → prize_by table word s m ≡ cell rows s m
        either m true e = near m (ltb-true m 16 e)
        either m false e = far m (ltb-false m 16 e)

-- all rows of the three schedules
module _ (table : List ℕ) where
  abbrev standard_kept : ℕ → Bool
  standard_kept k = is_kept table k (suc k) standard_rows

  abbrev special_one_kept : Bool
  special_one_kept = is_kept table 15 6 special_one_rows && is_kept table 16 8 special_one_rows

  abbrev special_two_kept : ℕ → Bool
  special_two_kept k = is_kept table (17 + k) (3 + k) special_two_rows

  abbrev pub all_kept : Bool
  all_kept = (all_below 15 standard_kept && special_one_kept) && all_below 4 special_two_kept

  pub all_kept_lem : T all_kept → Schedules table
  all_kept_lem t =
      let first = both (all_below 15 standard_kept && special_one_kept) (all_below 4 special_two_kept) t in
      let standard = both (all_below 15 standard_kept) special_one_kept first.0 in
      let one = both (is_kept table 15 6 special_one_rows) (is_kept table 16 8 special_one_rows) standard.1 in
      record {
        standard = λ s h k. subst (λ n. Keeps table (s - 1) n standard_rows) (omega arith) (kept table (s - 1) (suc (s - 1)) standard_rows (below_at 15 standard_kept standard.0 (s - 1) (omega arith)));
        six = kept table 15 6 special_one_rows one.0;
        eight = kept table 16 8 special_one_rows one.1;
        special_two = λ s h k.
            subst (λ n. Keeps table n s special_two_rows) (omega arith)
            (subst (λ n. Keeps table (17 + (s - 3)) n special_two_rows) (omega arith)
            (kept table (17 + (s - 3)) (3 + (s - 3)) special_two_rows (below_at 4 special_two_kept first.1 (s - 3) (omega arith))));
      }
