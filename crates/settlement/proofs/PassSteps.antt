-- The steps of the code that finds a game's prizes: a ticket from its row, the loop that fills the tables, the loop that raises the major prizes, and
-- what a reached house gives.
use Prim.Native.Nat.{ℕ, zero, suc, ◌+◌, ◌*◌, ◌-◌, ◌≤◌, ◌<◌, ◌^◌}
use mathlib.Core.Path.{◌≡◌, refl, sym, ap, ap₂, ◌∙◌, subst}
use mathlib.Core.Bool.{Bool, true, false, cond}
use mathlib.Core.List.{List, [], ◌∷◌, ◌++◌, map, map-map, map-append, append_assoc, Memᴰ}
use mathlib.Core.Logic.{⊎_elim}
use native.Mathlib.Nat.{le_of_suc-le-suc, add-zero, zero-add, le_trans, mul-le-mul_right}
use native.Mathlib.Numerals.{add-one}
use native.Mathlib.Decide.{dec_lt}
use native.Mathlib.Omega.{arith}
use lib.Dec.{leb}
use borrow.Author.Tests.{leb-true, leb-false}
use lib.ListN.{length, take, drop, set, get_or, length-append, length-map, length-set, get_or-eq_default}
use lib.Seq.{sets, take_all, take-suc-set, take-append-le, drop-append_seam, take_at, ext_get_or, sets-eq, length-sets}
use Rattle.sale.specs.Lists.{sum, below, keep}
use Rattle.prizes.specs.Prize.{major_floor, is_major}
use Rattle.prizes.specs.Cut.{majors_limit, payout}
use Rattle.sale.specs.Ways.{sizes, size_of, size_word}
use Rattle.prizes.specs.Hits.{hits}
use Rattle.sale.specs.Bounds.{Playable}
use Rattle.prizes.specs.Bounds.{way_prizes_limit}
use Rattle.prizes.specs.Found.{group_sizes, group_hits, word_bytes, GroupsOf, FoundWith}
use Rattle.prizes.specs.Rounds.{pay_under, Pays, Listed, Raisable}
use Rattle.prizes.specs.Settle.{prizes_by, full_by}
use Rattle.prizes.specs.declared.draw.Draw.{Draw}
use Rattle.sale.specs.declared.terms.Terms.{Terms}
use Rattle.prizes.specs.declared.found.Found.{Found}
use Rattle.prizes.specs.declared.cut.Cut.{Cut}
use Rattle.prizes.specs.declared.majors.Majors.{Majors}
use Rattle.sale.proofs.KeepLaws.{length_keep_le, sum_within}
use Rattle.sale.proofs.MarkLaws.{figure_le, length_by_group}
use Rattle.prizes.proofs.HitLaws.{word_bytes_lem}
use Rattle.prizes.proofs.FoundLaws.{sets_append}
use Rattle.prizes.proofs.CutPayouts.{payout_minor, payout_le}
use Rattle.prizes.proofs.CutFloors.{keep_member, payout_floor, payout_many, paid_raised, paid_sure}
use Rattle.house.specs.Tickets.{Ticket, runs_in, terms_of}
use Rattle.house.specs.Commands.{blank_ticket}
use Rattle.house.specs.Balance.{Reached}
use Rattle.house.specs.View.{view, ticket_from, ticket_in}
use Rattle.settlement.specs.Settling.{spread, prizes_at, matches_at, payouts_in}
use Rattle.settlement.specs.Passing.{live_in, prizes_below, sure_cents, all_majors, Sold, SoldAll, Narrow, FoundAt, full_of, no_ways, Cutting, CutOf, Raised}
use Rattle.settlement.specs.Drawn.{drawn_tickets, ways_at, FoundAll, Matched, PaidOut}
use Rattle.settlement.specs.declared.drawn_game.DrawnGame.{DrawnGame}
use Rattle.settlement.specs.declared.ways.TicketWays.{TicketWays}
use Rattle.house.specs.declared.state.House.{House}
use Rattle.house.specs.declared.rows.Row.{Row}
use Rattle.house.proofs.Ledger.{All, Kept}
use Rattle.house.proofs.ReachedHouses.{reached_sure}
use Rattle.house.proofs.RowLists.{get_or_map, length_table, get_or_table}
use Rattle.settlement.proofs.PassLaws.{member_append, majors_snoc, majors_next, majors_split, own_major, majors_all, majors_large, prizes_small, prizes_few, paid_spread, matches_spread}

-- ---- one ticket, from its row

module _ (w : Row) (own : List ℕ) where
  -- the words of its row fit the fields of the terms
  pub row_narrow : Playable (ticket_from w own).operands → Narrow w
  row_narrow p =
      record {
        kind = omega (arith, p.kind);
        games = omega (arith, p.few_games);
        stake = omega (arith, p.stake);
        groups = omega (arith, p.groups);
        types = p.types;
      }

  -- the sizes in its word are those of its marks
  pub row_sizes : Sold (ticket_from w own) → word_bytes 8 w.sizes ≡ sizes own
  row_sizes sold =
      let eighty : length own ≡ 80 = sold.playable.eighty in
      ap (word_bytes 8) sold.sized
      ∙ ap (λ n. word_bytes n (size_word (sizes own))) (sym (length_by_group (size_of own)))
      ∙ word_bytes_lem (sizes own) (λ i. omega (arith, figure_le own i))

  -- by whether the ticket runs
  module _ (game : ℕ) (draw : Draw) (majors : Majors) where
    abbrev ticket : Ticket
    ticket = ticket_from w own

    prizes_by_lem : (b : Bool) → runs_in game ticket ≡ b → prizes_at game draw ticket ≡ cond b (prizes_by (terms_of ticket.operands) (sizes own) (hits draw own)) []
    unfolding prizes_at
    prizes_by_lem b e = ap (λ t. cond t (prizes_by (terms_of ticket.operands) (sizes own) (hits draw own)) []) e

    matches_by : (b : Bool) → runs_in game ticket ≡ b → matches_at game draw ticket ≡ cond b (full_by (terms_of ticket.operands) (sizes own) (hits draw own)) 0
    unfolding matches_at
    matches_by b e = ap (λ t. cond t (full_by (terms_of ticket.operands) (sizes own) (hits draw own)) 0) e

    pub ticket_rests : runs_in game ticket ≡ false → FoundAt game draw (ticket_from w own) majors (record { sure = 0; full = 0 }) majors
    unfolding sum keep
    ticket_rests e =
        record {
          sure = sym (ap sure_cents (prizes_by_lem false e));
          full = sym (matches_by false e);
          behind =
              record {
                count = sym (ap (λ (l : List ℕ). majors.count + length (keep is_major l)) (prizes_by_lem false e) ∙ add-zero majors.count);
                stored = sym (ap (λ (l : List ℕ). sets majors.prizes majors.count (keep is_major l)) (prizes_by_lem false e));
              };
        }

    pub ticket_runs : runs_in game ticket ≡ true → Sold (ticket_from w own)
        → {t : Terms} → t ≡ terms_of (ticket_from w []).operands → {table : List ℕ} → GroupsOf w.sizes draw own table
        → {r : Found} {majors' : Majors} → FoundWith t (group_sizes table) (group_hits table) majors r majors'
        → FoundAt game draw (ticket_from w own) majors r majors'
    ticket_runs e sold terms {table} groups f =
        let same_sizes : group_sizes table ≡ sizes own = groups.sizes ∙ row_sizes sold in
        let same : prizes_by _ (group_sizes table) (group_hits table) ≡ prizes_by (terms_of ticket.operands) (sizes own) (hits draw own) =
        λ i. prizes_by (terms i) (same_sizes i) (groups.hits i) in
        let full : full_by _ (group_sizes table) (group_hits table) ≡ full_by (terms_of ticket.operands) (sizes own) (hits draw own) =
        λ i. full_by (terms i) (same_sizes i) (groups.hits i) in
        let prizes = same ∙ sym (prizes_by_lem true e) in
        record {
          sure = ap (λ (x : Found). x.sure) f.found ∙ ap sure_cents prizes;
          full = ap (λ (x : Found). x.full) f.found ∙ full ∙ sym (matches_by true e);
          behind =
              record {
                count = f.behind.count ∙ ap (λ (l : List ℕ). majors.count + length (keep is_major l)) prizes;
                stored = f.behind.stored ∙ ap (λ (l : List ℕ). sets majors.prizes majors.count (keep is_major l)) prizes;
              };
        }

-- ---- lists by place

-- two figures that agree on the members of a list
map_members : (f g : ℕ → ℕ) (xs : List ℕ) → ((x : ℕ) → Memᴰ x xs → f x ≡ g x) → map f xs ≡ map g xs
map_members f g [] same = refl
map_members f g (x ∷ xs) same = ap₂ ◌∷◌ (same x (Memᴰ.head refl)) (map_members f g xs (λ y m. same y (Memᴰ.tail m)))

get_or_map_at : (f : List ℕ → ℕ) (xs : List (List ℕ)) (i : ℕ) → i < length xs → get_or (map f xs) i 0 ≡ f (get_or xs i [])
get_or_map_at f xs i h = get_or_map f xs i [] 0 h

-- a list is its elements by place
list_table : {A : Type 0} (xs : List A) (d : A) → xs ≡ map (λ j. get_or xs j d) (below (length xs))
list_table xs d =
    ext_get_or d xs (map (λ j. get_or xs j d) (below (length xs))) (sym (length_table (λ j. get_or xs j d) (length xs)))
    (λ i h. sym (get_or_table (λ j. get_or xs j d) (length xs) i d h))

-- two figures that agree on the elements of a list
table_same : (f g : List ℕ → ℕ) (xs : List (List ℕ)) → ((i : ℕ) → i < length xs → f (get_or xs i []) ≡ g (get_or xs i [])) → map f xs ≡ map g xs
table_same f g xs same =
    ext_get_or 0 (map f xs) (map g xs) (length-map xs f ∙ sym (length-map xs g))
    (λ i h.
    let inside : i < length xs = omega (arith, length-map xs f) in
    get_or_map_at f xs i inside ∙ same i inside ∙ sym (get_or_map_at g xs i inside))

-- ---- a table that is filled, by place

-- the first i of n places hold f's values
pub record Filled {A : Type 0} (f : ℕ → A) (i n : ℕ) (table : List A) : Type 0 where
  pub long : length table ≡ n
  pub values : take i table ≡ map f (below i)

module _ {A : Type 0} (f : ℕ → A) where
  pub filled_none : {n : ℕ} {table : List A} → length table ≡ n → Filled f 0 n table
  unfolding below
  filled_none long = record { long = long; values = refl }

  pub filled_more : {i n : ℕ} {table : List A} → Filled f i n table → i < n → (x : A) → x ≡ f i → Filled f (i + 1) n (set table i x)
  unfolding below
  filled_more {i} {n} {table} filled inside x e =
      record {
        long = length-set table i x ∙ filled.long;
        values =
            ap (λ k. take k (set table i x)) (add-one i)
            ∙ take-suc-set table i x (omega (arith, filled.long))
            ∙ ap₂ (λ xs y. xs ++ (y ∷ [])) filled.values e
            ∙ sym (ap (λ k. map f (below k)) (add-one i) ∙ map-append f (below i) (i ∷ []));
      }

  pub filled_all : {i n : ℕ} {table : List A} → Filled f i n table → i ≡ n → table ≡ map f (below n)
  filled_all {i} {n} {table} filled all =
      sym (take_all n table (omega (arith, filled.long))) ∙ ap (λ k. take k table) (sym all) ∙ filled.values ∙ ap (λ k. map f (below k)) all

-- the first places of a table by place
take_table : {A : Type 0} (f : ℕ → A) (n i : ℕ) → i ≤ n → take i (map f (below n)) ≡ map f (below i)
unfolding below
take_table f zero i h = let none : i ≡ 0 = omega arith in rw none
take_table f (suc n) i h = go (leb i n) refl (take_table f n i)
  where
    go : (t : Bool) → leb i n ≡ t → (i ≤ n → take i (map f (below n)) ≡ map f (below i)) → take i (map f (below n ++ (n ∷ []))) ≡ map f (below i)
    go true e earlier =
        ap (take i) (map-append f (below n) (n ∷ []))
        ∙ take-append-le i (map f (below n)) (f n ∷ []) (omega (arith, length_table f n, leb-true i n e))
        ∙ earlier (leb-true i n e)
    go false e earlier =
        let all : i ≡ suc n = omega (arith, leb-false i n e) in
        rw all
        (take_all (suc n) (map f (below n ++ (n ∷ [])))
        (omega (arith, length-map (below n ++ (n ∷ [])) f, length-append (below n) (n ∷ []), length-map (below n) f, length_table f n)))

-- what holds of each place of a table holds of its members
table_members : {A : Type 0} (f : ℕ → A) (P : A → Type 0) (n : ℕ) → ((k : ℕ) → k < n → P (f k)) → (x : A) → Memᴰ x (map f (below n)) → P x
unfolding below
table_members f P zero each x m = elim m [ ]
table_members f P (suc n) each x m =
    ⊎_elim (λ k. table_members f P n (λ j h. each j (omega arith)) x k) last
    (member_append (map f (below n)) (f n ∷ []) x (subst (Memᴰ x) (map-append f (below n) (n ∷ [])) m))
  where
    last : Memᴰ x (f n ∷ []) → P x
    last (Memᴰ.head e) = subst P (sym e) (each n (omega arith))
    last (Memᴰ.tail k) = elim k [ ]

-- ---- the loop that fills the table of ways

module _ (g : DrawnGame) where
  abbrev ticket_at : ℕ → Ticket
  ticket_at i = ticket_in g.rows.now g.marks.now i

  abbrev prize_lists : ℕ → List (List ℕ)
  prize_lists i = prizes_below g.rows.now g.marks.now g.game g.draw i

  -- after the first i tickets
  pub record Finding (before : List ℕ) (i : ℕ) (ways : List TicketWays) (majors : Majors) : Type 0 where
    pub inside : i ≤ g.live
    pub found : Filled (ways_at g) i g.live ways
    pub listed : majors.prizes ≡ sets before 0 (all_majors (prizes_below g.rows.now g.marks.now g.game g.draw i))
    pub together : majors.count ≡ length (all_majors (prizes_below g.rows.now g.marks.now g.game g.draw i))
    pub few : majors.count ≤ i * 255

  pub finding_none : {ways : List TicketWays} (majors : Majors) → length ways ≡ g.live → majors.count ≡ 0 → Finding majors.prizes 0 ways majors
  unfolding below all_majors
  finding_none majors long none =
      record { inside = omega arith; found = filled_none _ long; listed = refl; together = none; few = omega arith }

  -- the major prizes with one ticket more
  majors_more : (i : ℕ) → all_majors (prize_lists (i + 1)) ≡ all_majors (prize_lists i) ++ keep is_major (prizes_at g.game g.draw (ticket_at i))
  unfolding below
  majors_more i =
      ap (λ n. all_majors (prize_lists n)) (add-one i)
      ∙ ap all_majors (map-append (λ k. prizes_at g.game g.draw (ticket_at k)) (below i) (i ∷ []))
      ∙ majors_snoc (prize_lists i) (prizes_at g.game g.draw (ticket_at i))

  module _ {before : List ℕ} {i : ℕ} {ways : List TicketWays} {majors : Majors} (f : Finding before i ways majors) where
    pub finding_more : i < g.live → (r : Found) (majors' : Majors)
        → FoundAt g.game g.draw (ticket_in g.rows.now g.marks.now i) majors r majors'
        → Finding before (i + 1) (set ways i (record { found = r; majors = majors'.count })) majors'
    finding_more inside r majors' a =
        let own = keep is_major (prizes_at g.game g.draw (ticket_at i)) in
        let own_few : length own ≤ 255 = omega (arith, length_keep_le is_major (prizes_at g.game g.draw (ticket_at i)), prizes_few g.game g.draw (ticket_at i) (g.sold.each i inside).playable) in
        let counted : majors'.count ≡ length (all_majors (prize_lists (i + 1))) =
        a.behind.count ∙ ap (λ n. n + length own) f.together ∙ sym (ap length (majors_more i) ∙ length-append (all_majors (prize_lists i)) own) in
        let here : record { found = r; majors = majors'.count } ≡ ways_at g i = λ k. record { found = record { sure = a.sure k; full = a.full k }; majors = counted k } in
        record {
          inside = omega arith;
          found = filled_more _ f.found inside _ here;
          listed =
              a.behind.stored ∙ ap₂ (λ (l : List ℕ) (n : ℕ). sets l n own) f.listed (f.together ∙ sym (zero-add (length (all_majors (prize_lists i)))))
              ∙ sets_append (all_majors (prize_lists i)) own before 0 ∙ ap (sets before 0) (sym (majors_more i));
          together = counted;
          few = omega (arith, a.behind.count, f.few);
        }

    pub finding_all : g.live ≤ i → length before ≡ 250 → FoundAll g ways before majors
    finding_all end places =
        let all : i ≡ g.live = omega (arith, f.inside) in
        record {
          found = filled_all _ f.found all;
          listed = f.listed ∙ ap (λ n. sets before 0 (all_majors (prize_lists n))) all;
          together = f.together ∙ ap (λ n. length (all_majors (prize_lists n))) all;
          places = places;
        }

-- ---- the loop that raises the major prizes

module _ (pss : List (List ℕ)) (ways : List TicketWays) (majors : List ℕ) (c : Cut) (k : Cutting pss ways majors c) where
  abbrev all : List ℕ
  all = all_majors pss

  -- what a ticket is paid
  abbrev paid_to : ℕ → ℕ
  paid_to i = sum (map (payout all) (get_or pss i []))

  abbrev own : ℕ → List ℕ
  own i = keep is_major (get_or pss i [])

  abbrev start : ℕ → ℕ
  start i = length (all_majors (take i pss))

  module _ (i : ℕ) (inside : i < length pss) where
    -- a ticket's major prizes in the table
    pub start_next : (get_or ways i no_ways).majors ≡ length (all_majors (take i pss)) + length (keep is_major (get_or pss i []))
    start_next =
        k.tables.up_to i inside
        ∙ ap (λ n. length (all_majors (take n pss))) (add-one i)
        ∙ ap length (majors_next pss i inside) ∙ length-append (all_majors (take i pss)) (own i)

    -- the table: those of the tickets before, its own, and others
    table_parts : majors ≡ all_majors (take i pss) ++ (own i ++ (all_majors (drop (suc i) pss) ++ k.rest))
    table_parts =
        k.whole
        ∙ ap (λ (l : List ℕ). l ++ k.rest) (majors_split pss (suc i) ∙ ap (λ (l : List ℕ). l ++ all_majors (drop (suc i) pss)) (majors_next pss i inside))
        ∙ append_assoc (all_majors (take i pss) ++ own i) (all_majors (drop (suc i) pss)) k.rest
        ∙ append_assoc (all_majors (take i pss)) (own i) (all_majors (drop (suc i) pss) ++ k.rest)

    own_part : take (length (own i)) (drop (start i) majors) ≡ own i
    own_part =
        ap (λ (l : List ℕ). take (length (own i)) (drop (start i) l)) table_parts
        ∙ ap (take (length (own i))) (drop-append_seam (all_majors (take i pss)) (own i ++ (all_majors (drop (suc i) pss) ++ k.rest)))
        ∙ take_at (own i) (all_majors (drop (suc i) pss) ++ k.rest) (length (own i)) refl

    own_inside : start i + length (own i) ≤ 250
    own_inside =
        omega (
          arith,
          k.long,
          ap length table_parts,
          length-append (all_majors (take i pss)) (own i ++ (all_majors (drop (suc i) pss) ++ k.rest)),
          length-append (own i) (all_majors (drop (suc i) pss) ++ k.rest),
        )

    own_least : (p : ℕ) → Memᴰ p (own i) → major_floor ≤ payout all p
    own_least p m = let among = own_major pss i p inside m in payout_floor all p among (majors_large pss p among)

    -- what the raising of a ticket's prizes asks
    pub raise_asks : {from many : ℕ} → from ≡ length (all_majors (take i pss)) → many ≡ length (keep is_major (get_or pss i [])) → Raisable c majors from many
    raise_asks {from} {many} f n =
        let part : take many (drop from majors) ≡ own i = ap₂ (λ a b. take a (drop b majors)) n f ∙ own_part in
        let among : (p : ℕ) → Memᴰ p (take many (drop from majors)) → Memᴰ p all =
        λ p m. own_major pss i p inside (subst (Memᴰ p) part m) in
        record {
          inside = omega (arith, own_inside);
          small = λ p m. k.small p (among p m);
          least = λ p m. subst (λ x. major_floor ≤ x) (sym (k.pays.each p (among p m))) (payout_floor all p (among p m) (majors_large pss p (among p m)));
          most = λ p m. subst (λ x. x ≤ majors_limit) (sym (k.pays.each p (among p m))) (payout_le all p (among p m));
        }

    -- and what it gives
    pub raise_gives : {from many : ℕ} → from ≡ length (all_majors (take i pss)) → many ≡ length (keep is_major (get_or pss i []))
        → sure_cents (get_or pss i []) + sum (map (λ p. pay_under c p - major_floor) (take many (drop from majors))) ≡ paid_to i
    raise_gives {from} {many} f n =
        let part : take many (drop from majors) ≡ own i = ap₂ (λ a b. take a (drop b majors)) n f ∙ own_part in
        ap (λ (l : List ℕ). sure_cents (get_or pss i []) + sum (map (λ p. pay_under c p - major_floor) l)) part
        ∙ ap (λ (l : List ℕ). sure_cents (get_or pss i []) + sum l) (map_members (λ p. pay_under c p - major_floor) (λ p. payout all p - major_floor) (own i) (λ p m. ap (λ n. n - major_floor) (k.pays.each p (own_major pss i p inside m))))
        ∙ sym (paid_raised all (get_or pss i []) own_least)

    -- no ticket is paid more than the limit for each way
    pub paid_small : paid_to i ≤ way_prizes_limit
    paid_small =
        le_trans (sum_within (payout all) majors_limit (get_or pss i []) each) (mul-le-mul_right majors_limit (k.prizes i))
      where
        each : (p : ℕ) → Memᴰ p (get_or pss i []) → payout all p ≤ majors_limit
        each p m = go (is_major p) refl
          where
            go : (t : Bool) → is_major p ≡ t → payout all p ≤ majors_limit
            go true e = payout_le all p (own_major pss i p inside (keep_member is_major (get_or pss i []) p m e))
            go false e = omega (arith, leb-false major_floor p e, payout_minor all p (leb-false major_floor p e))

  pub ways_count : length ways ≡ length pss
  ways_count = sym (length-map ways _) ∙ ap length k.tables.cents ∙ length-map pss sure_cents

  -- after the first i tickets
  pub record Raising (i : ℕ) (paid : List ℕ) (from : ℕ) : Type 0 where
    pub inside : i ≤ length pss
    pub place : from ≡ length (all_majors (take i pss))
    pub done : Filled (λ j. sum (map (payout (all_majors pss)) (get_or pss j []))) i (length pss) paid

  pub raising_none : {paid : List ℕ} → length paid ≡ length ways → Raising 0 paid 0
  unfolding all_majors
  raising_none long = record { inside = omega arith; place = refl; done = filled_none _ (long ∙ ways_count) }

  -- what is sure of a ticket
  pub sure_at : (i : ℕ) → i < length pss → (get_or ways i no_ways).found.sure ≡ sure_cents (get_or pss i [])
  sure_at i inside =
      sym (get_or_map (λ w. w.found.sure) ways i no_ways 0 (omega (arith, ways_count)))
      ∙ ap (λ (l : List ℕ). get_or l i 0) k.tables.cents ∙ get_or_map_at sure_cents pss i inside

  pub raising_more : {i : ℕ} {paid : List ℕ} {from x : ℕ} → Raising i paid from → i < length pss
      → x ≡ sum (map (payout (all_majors pss)) (get_or pss i [])) → Raising (i + 1) (set paid i x) ((get_or ways i no_ways).majors)
  raising_more {i} {paid} {from} {x} r inside paidx =
      record {
        inside = omega arith;
        place = start_next i inside ∙ sym (ap (λ n. length (all_majors (take n pss))) (add-one i) ∙ ap length (majors_next pss i inside) ∙ length-append (all_majors (take i pss)) (own i));
        done = filled_more _ r.done inside x paidx;
      }

  pub raising_all : {i : ℕ} {paid : List ℕ} {from : ℕ} → Raising i paid from → length ways ≤ i → Raised pss paid
  raising_all {i} {paid} r end =
      filled_all paid_to r.done (omega (arith, r.inside, ways_count))
      ∙ sym (ap (map (λ ps. sum (map (payout all) ps))) (list_table pss []) ∙ map-map (λ ps. sum (map (payout all) ps)) (λ j. get_or pss j []) (below (length pss)))

-- ---- a reached house

all_at : {A : Type 0} (P : A → Type 0) (xs : List A) (i : ℕ) (d : A) → All P xs → i < length xs → P (get_or xs i d)
all_at P [] i d each inside = absurd (omega arith)
all_at P (x ∷ xs) zero d each inside = each.0
all_at P (x ∷ xs) (suc i) d each inside = all_at P xs i d each.1 (le_of_suc-le-suc inside)

pub reached_sold : (h : House) (words marks : List ℕ) → Reached (view h words marks) → SoldAll words marks h.live
unfolding view
reached_sold h words marks r =
    let sure = reached_sure (view h words marks) r in
    let places : length (live_in words marks h.live) ≡ h.live = length_table (ticket_in words marks) h.live in
    record {
      few = omega (arith, sure.few);
      each =
          λ i inside.
          let kept = all_at (Kept h.game) (live_in words marks h.live) i blank_ticket sure.kept (omega arith) in
          subst Sold (get_or_table (ticket_in words marks) h.live i blank_ticket inside) (record { playable = kept.fixed.playable; counted = kept.fixed.counted; playing = kept.fixed.playing; sized = kept.fixed.sized });
    }

-- ---- a game without live tickets

nothing : (game : ℕ) (figures : List ℕ) (ts : List Ticket) → length ts ≡ 0 → spread game figures ts ≡ []
unfolding spread
nothing game figures [] e = refl
nothing game figures (t ∷ ts) e = absurd (omega arith)

empty : {A : Type 0} (xs : List A) → length xs ≡ 0 → xs ≡ []
empty [] e = refl
empty (x ∷ xs) e = absurd (omega arith)

-- there is nothing to pay
pub nothing_paid : (g : DrawnGame) (ways : List TicketWays) (paid : List ℕ) → g.live ≡ 0 → length ways ≡ g.live → length paid ≡ g.live → PaidOut g ways paid
nothing_paid g ways paid none no_ways no_cents =
    let none_drawn : length (drawn_tickets g) ≡ 0 = length_table (ticket_in g.rows.now g.marks.now) g.live ∙ none in
    record {
      payouts = empty paid (no_cents ∙ none) ∙ sym (nothing g.game _ (drawn_tickets g) none_drawn);
      matches = ap full_of (empty ways (no_ways ∙ none)) ∙ sym (nothing g.game _ (drawn_tickets g) none_drawn);
    }

-- ---- what the ways are paid, by place and by ticket

module _ (g : DrawnGame) where
  abbrev placed : List (List ℕ)
  placed = prizes_below g.rows.now g.marks.now g.game g.draw g.live

  abbrev prize_at : ℕ → List ℕ
  prize_at k = prizes_at g.game g.draw (ticket_in g.rows.now g.marks.now k)

  placed_count : length placed ≡ g.live
  placed_count = length_table prize_at g.live

  -- what the rule pays
  rule_spread :
      map (λ ps. sum (map (payout (all_majors placed)) ps)) placed
      ≡ spread g.game (payouts_in g.game g.draw (drawn_tickets g)) (drawn_tickets g)
  rule_spread =
      let same : placed ≡ map (prizes_at g.game g.draw) (drawn_tickets g) =
      sym (map-map (prizes_at g.game g.draw) (ticket_in g.rows.now g.marks.now) (below g.live)) in
      ap (λ (l : List (List ℕ)). map (λ ps. sum (map (payout (all_majors l)) ps)) l) same
      ∙ paid_spread g.game g.draw (drawn_tickets g)

  -- which is what is sure where 250 are major or more
  sure_spread : 250 ≤ length (all_majors placed)
      → map sure_cents placed ≡ spread g.game (payouts_in g.game g.draw (drawn_tickets g)) (drawn_tickets g)
  sure_spread many = table_same sure_cents (λ ps. sum (map (payout (all_majors placed)) ps)) placed each ∙ rule_spread
    where
      each : (i : ℕ) → i < length placed → sure_cents (get_or placed i []) ≡ sum (map (payout (all_majors placed)) (get_or placed i []))
      each i inside =
          sym
          (paid_sure (all_majors placed) (get_or placed i [])
          (λ p m. payout_many (all_majors placed) (majors_large placed) many p (own_major placed i p inside m)))

  placed_small : (p : ℕ) → Memᴰ p (all_majors placed) → p < 2 ^ 40
  placed_small =
      majors_all (λ p. p < 2 ^ 40) placed
      (table_members prize_at (λ ps. (p : ℕ) → Memᴰ p ps → p < 2 ^ 40) g.live
      (λ k inside. prizes_small g.game g.draw (ticket_in g.rows.now g.marks.now k) (g.sold.each k inside).playable))

  -- ---- the parts together

  module _ {ways : List TicketWays} {before : List ℕ} {majors : Majors} (f : FoundAll g ways before majors) where
    matched : Matched g ways
    matched =
        ap full_of f.found ∙ map-map (λ w. w.found.full) (ways_at g) (below g.live)
        ∙ sym (map-map (matches_at g.game g.draw) (ticket_in g.rows.now g.marks.now) (below g.live))
        ∙ matches_spread g.game g.draw (drawn_tickets g)

    sure_found : map (λ w. w.found.sure) ways ≡ map sure_cents placed
    sure_found =
        ap (map (λ w. w.found.sure)) f.found ∙ map-map (λ w. w.found.sure) (ways_at g) (below g.live) ∙ sym (map-map sure_cents prize_at (below g.live))

    -- what the rule pays the ways where 250 prizes are major or more
    pub sure_paid : {paid : List ℕ} → 250 ≤ majors.count → paid ≡ map (λ w. w.found.sure) ways → PaidOut g ways paid
    sure_paid many paid = record { payouts = paid ∙ sure_found ∙ sure_spread (omega (arith, f.together)); matches = matched }

    long : length majors.prizes ≡ 250
    long = ap length f.listed ∙ length-sets before 0 (all_majors placed) ∙ f.places

    prizes_le : (i : ℕ) → Dec (i < g.live) → length (get_or placed i []) ≤ 255
    prizes_le i (yes inside) =
        subst (λ (l : List ℕ). length l ≤ 255) (sym (get_or_table prize_at g.live i [] inside))
        (prizes_few g.game g.draw (ticket_in g.rows.now g.marks.now i) (g.sold.each i inside).playable)
    prizes_le i (no past) = rw (get_or-eq_default placed [] {n = i} (omega (arith, placed_count))) (omega arith)

    up_to : (i : ℕ) → i < length placed → (get_or ways i no_ways).majors ≡ length (all_majors (take (i + 1) placed))
    up_to i h =
        let inside : i < g.live = omega (arith, placed_count) in
        ap (λ (l : List TicketWays). (get_or l i no_ways).majors) f.found
        ∙ ap (λ (w : TicketWays). w.majors) (get_or_table (ways_at g) g.live i no_ways inside)
        ∙ ap (λ (l : List (List ℕ)). length (all_majors l)) (sym (take_table prize_at g.live (i + 1) (omega arith)))

    module _ (few : majors.count < 250) where
      abbrev others : List ℕ
      others = drop (0 + length (all_majors placed)) before

      whole : majors.prizes ≡ all_majors placed ++ others
      whole = f.listed ∙ sets-eq (all_majors placed) before 0 (omega (arith, f.together, f.places))

      first_prizes : take majors.count majors.prizes ≡ all_majors placed
      first_prizes = ap (take majors.count) whole ∙ take_at (all_majors placed) others majors.count (sym f.together)

      -- what the cut asks of those that are stored
      pub found_listed : Listed (take majors.count majors.prizes)
      found_listed =
          record {
            few = omega (arith, ap length first_prizes, f.together);
            each = λ p m. let among = subst (Memᴰ p) first_prizes m in record { large = majors_large placed p among; small = placed_small p among };
          }

      found_cutting : {c : Cut} → Pays c (take majors.count majors.prizes) → Cutting placed ways majors.prizes c
      found_cutting {c} pays =
          record {
            few = omega (arith, placed_count, g.sold.few);
            prizes = λ i. prizes_le i (dec_lt i g.live);
            tables = record { cents = sure_found; up_to = up_to };
            long = long;
            rest = others;
            whole = whole;
            small = placed_small;
            pays = subst (Pays c) first_prizes pays;
          }

      pub found_cut : {c : Cut} → Pays c (take majors.count majors.prizes) → CutOf ways majors.prizes c
      found_cut pays = record { prizes = placed; cutting = found_cutting pays }

      -- and where they are fewer
      pub raised_paid : {c : Cut} → Pays c (take majors.count majors.prizes) → {paid : List ℕ}
          → ((pss : List (List ℕ)) → Cutting pss ways majors.prizes c → Raised pss paid) → PaidOut g ways paid
      raised_paid pays raised = record { payouts = raised placed (found_cutting pays) ∙ rule_spread; matches = matched }
