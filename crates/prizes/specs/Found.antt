-- What one pass over a ticket's ways finds in a drawn game, as the code carries it and stores it. Only contracts speak of these; the laws in
-- proofs/FoundLaws join them to the rule's prizes.
use Rattle.std.specs.Prelude.{ℕ, zero, suc, ◌+◌, ◌*◌, ◌/◌, ◌%◌, ◌^◌, ◌≤◌, ◌<◌, min, ◌≡◌, eqb, length, drop, get_or}
use mathlib.Core.List.{List, [], ◌∷◌, map, zip_with}
use Rattle.std.proofs.lemmas.List.Edits.{sets}
use Rattle.sale.specs.Lists.{sum, keep}
use Rattle.prizes.specs.Hits.{hits}
use Rattle.prizes.specs.Prize.{major_floor, is_major, prize}
use Rattle.prizes.specs.Settle.{prizes_by, full_by}
use Rattle.sale.specs.declared.terms.Kind.{Kind}
use Rattle.prizes.specs.declared.draw.Draw.{Draw}
use Rattle.sale.specs.declared.terms.Terms.{Terms}
use Rattle.prizes.specs.declared.found.Found.{Found}
use Rattle.prizes.specs.declared.majors.Majors.{Majors}

-- ---- a group, or a way, in one number: the numbers that it selects, times 4096, and those of them that are drawn

abbrev pub size_in : ℕ → ℕ
size_in pair = pair / 4096

abbrev pub hits_in : ℕ → ℕ
hits_in pair = pair % 4096

-- the groups of a table that has group k at place k; place 0 is no group
abbrev pub group_sizes : List ℕ → List ℕ
group_sizes table = map size_in (drop 1 table)

abbrev pub group_hits : List ℕ → List ℕ
group_hits table = map hits_in (drop 1 table)

-- a table of eight groups with at most 255 numbers each
pub record Groups (table : List ℕ) : Type 0 where
  pub long : length table ≡ 9
  pub sizes : (k : ℕ) → size_in (get_or table k 0) ≤ 255
  pub hits : (k : ℕ) → hits_in (get_or table k 0) ≤ 255

-- the bytes of a word, so many of them, the lowest first: what `size_word` put there
abbrev pub word_bytes : ℕ → ℕ → List ℕ
word_bytes zero word = []
word_bytes (suc n) word = word % 256 ∷ word_bytes n (word / 256)

-- a table of groups from the words of their sizes and of their hits
abbrev pub group_table : ℕ → ℕ → List ℕ
group_table sizes hits = 0 ∷ zip_with (λ size hit. size * 4096 + hit) (word_bytes 8 sizes) (word_bytes 8 hits)

-- the table of a ticket's groups, from the word of their sizes and the ticket's marks
pub record GroupsOf (word : ℕ) (draw : Draw) (marks table : List ℕ) : Type 0 where
  pub groups : Groups table
  pub sizes : group_sizes table ≡ word_bytes 8 word
  pub hits : group_hits table ≡ hits draw marks

-- ---- the figures of ways

abbrev pub prize_in : Kind → ℕ → ℕ → ℕ
prize_in kind stake pair = prize kind stake (size_in pair) (hits_in pair)

-- no cut goes below the floor of major prizes, so that this much of a prize is paid in any case
abbrev pub sure_of : ℕ → ℕ
sure_of p = min p major_floor

abbrev pub majors_among : Kind → ℕ → List ℕ → List ℕ
majors_among kind stake pairs = keep is_major (map (prize_in kind stake) pairs)

-- Room for so many ways in what is found of a ticket, and in the count of all major prizes so far.
pub record Room (ways : ℕ) (found : Found) (count : ℕ) : Type 0 where
  pub sure : found.sure + major_floor * ways < 2 ^ 64
  pub full : found.full + ways < 2 ^ 64
  pub majors : count + ways < 2 ^ 64

-- major prizes counted, and stored behind those so far as far as there are places
pub record Behind (these : List ℕ) (majors majors' : Majors) : Type 0 where
  pub count : majors'.count ≡ majors.count + length these
  pub stored : majors'.prizes ≡ sets majors.prizes majors.count these

-- cents and matches added to what is found, with such major prizes
pub record Joined (cents matches : ℕ) (these : List ℕ) (found : Found) (majors : Majors) (found' : Found) (majors' : Majors) : Type 0 where
  pub sure : found'.sure ≡ found.sure + cents
  pub full : found'.full ≡ found.full + matches
  pub behind : Behind these majors majors'

-- the figures of some ways
abbrev pub JoinedWays : Terms → List ℕ → Found → Majors → Found → Majors → Type 0
JoinedWays t pairs =
    Joined
    (sum (map (λ x. sure_of (prize_in t.kind t.stake x)) pairs))
    (length (keep (λ x. eqb (hits_in x) (size_in x)) pairs))
    (majors_among t.kind t.stake pairs)

-- so many major prizes before a ticket's that their count fits
pub record Counting (before : ℕ) : Type 0 where
  pub few : before < 2 ^ 32

-- ---- of a ticket

abbrev pub found_of : Terms → List ℕ → List ℕ → Found
found_of t sizes hits = record { sure = sum (map sure_of (prizes_by t sizes hits)); full = full_by t sizes hits }

pub record FoundWith (t : Terms) (sizes hits : List ℕ) (majors : Majors) (r : Found) (majors' : Majors) : Type 0 where
  pub found : r ≡ found_of t sizes hits
  pub behind : Behind (keep is_major (prizes_by t sizes hits)) majors majors'
