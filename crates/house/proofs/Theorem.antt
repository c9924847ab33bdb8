-- Demand 3, proved: `till_balances`. Every state of a run has a ledger of all tickets ever sold, of which the house is the live part and the
-- count sheet the lines; each command is followed from ledger to ledger, and what is claimed of the house and the sheet is read off.
use mathlib.Core.Path.{◌≡◌, refl, sym, ap, subst, subst⁻¹, subst₂, ◌∙◌}
use Prim.Native.Nat.{ℕ, ◌+◌}
use mathlib.Core.Bool.{Bool, true, false}
use mathlib.Core.List.{List, [], ◌∷◌, ◌++◌, map}
use lib.Dec.{eqb}
use borrow.Author.Tests.{eqb-true, eqb-false}
use Rattle.sale.specs.Lists.{keep}
use Rattle.house.specs.Model.{Model, fresh}
use Rattle.house.specs.Commands.{Command, claim, collect, Answer, code_of, act, reply, answer_of, step, still_live, running_in}
use Rattle.house.specs.Till.{till_of}
use Rattle.house.specs.Sheet.{Sheet, playing, sheet_reply}
use Rattle.house.specs.Claims.{Log, sheet_of, PlaysExactly, won_by, given_back}
use Rattle.house.specs.Balance.{State, next, run_from, run, Balanced, TillBalances, Reached}
use Rattle.house.proofs.Ledger.{house_of, Orderly}
use Rattle.house.proofs.OrderlyLedgers.{orderly_fresh}
use Rattle.house.proofs.SheetFigures.{till_of_house}
use Rattle.house.proofs.SheetAnswers.{balanced_fresh}
use Rattle.house.proofs.LogLaws.{logged}
use Rattle.house.proofs.Won.{Told, told_fresh, told_refused, claim_pays, collect_due}
use Rattle.house.proofs.Players.{house_players, sheet_players}
use Rattle.house.proofs.Bounded.{Bounded, bounded_fresh, figures_fit}
use Rattle.house.proofs.OneCommand.{refused_unchanged, accepted_done, accepted_code}
use Rattle.house.proofs.EachCommand.{Shown, ShortDay, Followed, followed}

-- what holds of a house and the log of its commands
pub record Booked (h : Model) (log : Log) : Type 0 where
  pub ledger : Model
  pub house : h ≡ house_of ledger
  pub orderly : Orderly ledger
  pub told : Told ledger log
  pub balanced : Balanced (till_of ledger)
  pub bounded : Bounded ledger

booked_fresh : Booked fresh []
unfolding still_live keep
booked_fresh =
    record {
      ledger = fresh;
      house = refl;
      orderly = orderly_fresh;
      told = told_fresh;
      balanced = balanced_fresh;
      bounded = bounded_fresh;
    }

-- one command more, accepted or refused
module _ (h : Model) (log : Log) (c : Command) (b : Booked h log) where
  abbrev before : Model
  before = b.ledger

  accepted_there : code_of h c ≡ 0 → code_of (house_of before) c ≡ 0
  accepted_there accepted = sym (ap (λ m. code_of m c) b.house) ∙ accepted

  -- what is shown of it where it is accepted
  follows : code_of h c ≡ 0 → Followed before log c (act (house_of before) c) (reply (house_of before) c)
  follows accepted = followed before log b.orderly b.told b.bounded b.balanced c (accepted_there accepted)

  booked_accepted : code_of h c ≡ 0 → Booked (act h c) (logged c 0 ∷ log)
  booked_accepted accepted =
      let f = follows accepted in
      record {
        ledger = f.ledger;
        house = ap (λ m. act m c) b.house ∙ f.drops;
        orderly = f.orderly;
        told = f.told;
        balanced = f.balanced;
        bounded = f.bounded;
      }

  booked_refused : (code_of h c ≡ 0 → ⊥) → Booked h (logged c (code_of h c) ∷ log)
  booked_refused refused =
      record {
        ledger = before;
        house = b.house;
        orderly = b.orderly;
        told = told_refused before log c (code_of h c) refused b.told;
        balanced = b.balanced;
        bounded = b.bounded;
      }

  booked_next : Booked (step h c).house (logged c (step h c).answer.code ∷ log)
  booked_next = go (eqb (code_of h c) 0) refl
    where
      go : (t : Bool) → eqb (code_of h c) 0 ≡ t → Booked (step h c).house (logged c (step h c).answer.code ∷ log)
      go true e =
          let accepted : code_of h c ≡ 0 = eqb-true (code_of h c) 0 e in
          let done = accepted_done h c accepted in
          subst₂ (λ (m : Model) (code : ℕ). Booked m (logged c code ∷ log)) (sym done.0)
          (sym (ap (λ (a : Answer). a.code) done.1)) (booked_accepted accepted)
      go false e =
          let refused : code_of h c ≡ 0 → ⊥ = eqb-false (code_of h c) 0 e in
          let same = refused_unchanged h c refused in
          subst₂ (λ (m : Model) (code : ℕ). Booked m (logged c code ∷ log)) (sym same.0)
          (sym (ap (λ (a : Answer). a.code) same.1)) (booked_refused refused)

booked_from : (s : State) → Booked s.house s.log → (cs : List Command) → Booked (run_from s cs).house (run_from s cs).log
unfolding run_from next
booked_from s b [] = b
booked_from s b (c ∷ cs) = booked_from (next s c) (booked_next s.house s.log c b) cs

-- every run is booked, whatever its commands
pub booked : (cs : List Command) → Booked (run cs).house (run cs).log
booked cs = booked_from (record { house = fresh; log = [] }) booked_fresh cs

-- what an accepted command answers in a booked house
module _ (h : Model) (log : Log) (c : Command) (b : Booked h log) (accepted : (step h c).answer.code ≡ 0) where
  code_there : code_of h c ≡ 0
  code_there = accepted_code h c accepted

  answer_there : (step h c).answer ≡ answer_of (reply (house_of b.ledger) c)
  answer_there = (accepted_done h c code_there).1 ∙ ap (λ m. answer_of (reply m c)) b.house

  answers_sheet : ((step h c).answer.number ≡ (sheet_reply (sheet_of log) c).number) × ((step h c).answer.cents ≡ (sheet_reply (sheet_of log) c).cents)
  answers_sheet =
      let agree : reply (house_of b.ledger) c ≡ sheet_reply (sheet_of log) c =
      (follows h log c b code_there).agrees ∙ ap (λ (s : Sheet). sheet_reply s c) (sym b.told.sheet) in
      let same = answer_there ∙ ap answer_of agree in
      (ap (λ (a : Answer). a.number) same, ap (λ (a : Answer). a.cents) same)

claim_in : (h : Model) (log : Log) (n : ℕ) (b : Booked h log)
    → (step h (claim n)).answer.code ≡ 0
    → (step h (claim n)).answer.cents ≡ won_by n log + given_back n log
claim_in h log n b accepted =
    ap (λ (a : Answer). a.cents) (answer_there h log (claim n) b accepted)
    ∙ claim_pays b.ledger log n b.orderly b.told (accepted_there h log (claim n) b (code_there h log (claim n) b accepted))

collect_in : (h : Model) (log : Log) (n : ℕ) (b : Booked h log)
    → (step h (collect n)).answer.code ≡ 0
    → (step h (collect n)).answer.cents ≡ won_by n log + given_back n log
unfolding reply
collect_in h log n b accepted =
    ap (λ (a : Answer). a.cents) (answer_there h log (collect n) b accepted)
    ∙ (collect_due b.ledger log n b.orderly b.told (accepted_there h log (collect n) b (code_there h log (collect n) b accepted))).won

-- who plays in the current game of a booked house
players_in : (h : Model) (log : Log) → Booked h log
    → PlaysExactly log (map (λ t. t.number) (running_in h)) × PlaysExactly log (map (λ l. l.number) (playing (sheet_of log)))
players_in h log b = (
  subst⁻¹ (λ m. PlaysExactly log (map (λ t. t.number) (running_in m))) b.house (house_players b.ledger log b.orderly b.told),
  sheet_players b.ledger log b.orderly b.told,
)

till_in : (h : Model) (log : Log) (b : Booked h log) → till_of h ≡ till_of b.ledger
till_in h log b = ap till_of b.house ∙ till_of_house b.ledger

-- The theorem.
pub till_balances : (cs : List Command) → TillBalances cs
till_balances cs =
    let b = booked cs in
    let same = till_in (run cs).house (run cs).log b in
    record {
      balance = subst Balanced (sym same) b.balanced;
      figures = same ∙ sym (ap (λ (s : Sheet). s.figures) b.told.sheet);
      answers = λ before after c split accepted. answers_sheet (run before).house (run before).log c (booked before) accepted;
      plays = λ before after n split accepted last. players_in (run before).house (run before).log (booked before);
      once = b.told.once;
      pays = λ before after n split accepted. claim_in (run before).house (run before).log n (booked before) accepted;
      collects = λ before after n split accepted. collect_in (run before).house (run before).log n (booked before) accepted;
    }

-- a reached house is booked, with some log
pub reached_booked : (m : Model) → Reached m → (log : Log) × Booked m log
reached_booked m r = ((run r.commands).log, subst (λ (h : Model). Booked h (run r.commands).log) r.comes (booked r.commands))

-- what it answers to an accepted command fits the answer's bytes
pub reply_shown : (m : Model) (c : Command) → Reached m → ShortDay c → code_of m c ≡ 0 → Shown (reply m c)
reply_shown m c r short accepted =
    let booked_here = reached_booked m r in
    let b = booked_here.1 in
    let f = follows m booked_here.0 c b accepted in
    subst⁻¹ (λ (h : Model). Shown (reply h c)) b.house
    (f.shown short (figures_fit b.ledger b.bounded b.balanced) (figures_fit f.ledger f.bounded f.balanced))

-- more commands at the end of a list
pub run_on : (cs : List Command) (s : State) (more : List Command) → run_from s (cs ++ more) ≡ run_from (run_from s cs) more
unfolding run_from
run_on [] s more = refl
run_on (c ∷ cs) s more = run_on cs (next s c) more

-- and one
pub run_more : (cs : List Command) (s : State) (c : Command) → run_from s (cs ++ (c ∷ [])) ≡ next (run_from s cs) c
unfolding run_from
run_more cs s c = run_on cs s (c ∷ [])

-- the state after an accepted command
pub next_accepted : (s : State) (c : Command) → (step s.house c).answer.code ≡ 0 → next s c ≡ record { house = act s.house c; log = logged c 0 ∷ s.log }
unfolding next
next_accepted s c accepted =
    λ i. record { house = (accepted_done s.house c (accepted_code s.house c accepted)).0 i; log = logged c (accepted i) ∷ s.log }

-- a command keeps a house reached
pub reached_more : (cs : List Command) (s : State) (c : Command) → (run_from s (cs ++ (c ∷ []))).house ≡ (step (run_from s cs).house c).house
unfolding next
reached_more cs s c = ap (λ (t : State). t.house) (run_more cs s c)

pub reached_step : (m : Model) (c : Command) → Reached m → Reached (step m c).house
reached_step m c r =
    record {
      commands = r.commands ++ (c ∷ []);
      comes = reached_more r.commands (record { house = fresh; log = [] }) c ∙ ap (λ h. (step h c).house) r.comes;
    }
