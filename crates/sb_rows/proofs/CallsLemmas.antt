-- What calls leave of a space, carried from one result to another.
use Rattle.std.proofs.Common.{◌≡◌, ⊎_elim, inl, inr, ℕ, Bool, cond, Result, Ok, Err, IfErr, refl, subst}
use Rattle.std.specs.Result.{IsErrAnd}
use Rattle.sb_relation.specs.Db.{Rows}
use Rattle.sb_treemethod.specs.Instance.{Instance}
use Rattle.sb_treemethod.specs.Method.{Method}
use Rattle.sb_treemethod.specs.MethodAnswers.{GetsKey, cost_of}
use Rattle.sb_treemethod.specs.MethodCall.{MethodCall}
use Rattle.sb_treemethod.specs.Move.{Move}
use Rattle.sb_treemethod.specs.Move.TheVariants as move
use Rattle.sb_registry.specs.MethodCalls.{CostsBy}
use Rattle.sb_registry.specs.SpaceFault.{SpaceFault}
use Rattle.sb_registry.specs.SpaceFault.TheVariants.{Fault, Damaged, Down, NoMemory}
use Rattle.sb_registry.specs.Slots.{Slots}
use Rattle.sb_registry.specs.Spaces.{IsReadFault, IsRefused, Leaves, LeadsWithin, UnlessDown, Wanted}
use Rattle.sb_registry.proofs.SpacesLemmas.{GoesOn, IfErr-passed, LeadsWithin-more, LeadsWithin-none, UnlessDown-passed}
use Rattle.sb_registry.specs.Runs.{Looks, Works}
use Rattle.sb_registry.proofs.MethodLemmas.{cost_of-most}
use Rattle.sb_rows.specs.Placings.{IsDoneOrNone, IsPlacing, IsReplacing, RowCosts, has_key, has_new, is_gone, placing_in, replacing_in}

-- ---- the same of another result
pub Looks-made : {S T U : Type 0} (Has : Wanted → Slots → S → Type 0) (Leads : ℕ → S → S → Type 0) (Fails : SpaceFault → S → S → Type 0) (old new : S) (x : T) (y : U) →
    Looks {T = T} Has Leads Fails old new (Ok x) → Looks {T = U} Has Leads Fails old new (Ok y)
Looks-made Has Leads Fails old new x y looks = record { same = looks.same; leads = looks.leads; fault = tt; refused = tt }

pub Looks-passed : {S T U : Type 0} (Has : Wanted → Slots → S → Type 0) (Leads : ℕ → S → S → Type 0) (Fails : SpaceFault → S → S → Type 0) (old new : S) (r : Result U SpaceFault) (e : SpaceFault) →
    IsErrAnd r (λ x. x ≡ e) → Looks {T = T} Has Leads Fails old new (Err e) → Looks Has Leads Fails old new r
Looks-passed {S} {T} {U} Has Leads Fails old new r e is looks = record {
  same = UnlessDown-passed T U r e ((want : Wanted) (s : Slots) → Has want s old → Has want s new) ((want : Wanted) (s : Slots) → Has want s old → Has want s new) is (λ left. left) looks.same;
  leads = looks.leads;
  fault = IfErr-passed r e IsReadFault is looks.fault;
  refused = IfErr-passed r e (λ x. IsRefused (Leads 0 old new) (Fails x old new) x) is looks.refused;
}

pub Works-made : {S T U : Type 0} (Has : Wanted → Slots → S → Type 0) (Leads : ℕ → S → S → Type 0) (Fails : SpaceFault → S → S → Type 0) (Durable : S → Bool) (Total : S → ℕ) (owner : ℕ)
    (old new : S) (x : T) (y : U) → Works {T = T} Has Leads Fails Durable Total owner old new (Ok x) → Works {T = U} Has Leads Fails Durable Total owner old new (Ok y)
Works-made Has Leads Fails Durable Total owner old new x y works = record { others = works.others; leads = works.leads; full = tt; refused = tt }

pub Works-passed : {S T U : Type 0} (Has : Wanted → Slots → S → Type 0) (Leads : ℕ → S → S → Type 0) (Fails : SpaceFault → S → S → Type 0) (Durable : S → Bool) (Total : S → ℕ) (owner : ℕ)
    (old new : S) (r : Result U SpaceFault) (e : SpaceFault) → IsErrAnd r (λ x. x ≡ e) → Works {T = T} Has Leads Fails Durable Total owner old new (Err e) → Works Has Leads Fails Durable Total owner old new r
Works-passed {S} {T} {U} Has Leads Fails Durable Total owner old new r e is works =
    let Left : Type 0 = (want : Wanted) (s : Slots) → Has want s old → Leaves Has owner want s new (λ after. Unit {0}) in
    record {
      others = UnlessDown-passed T U r e Left Left is (λ left. left) works.others;
      leads = works.leads;
      full = IfErr-passed r e _ is works.full;
      refused = IfErr-passed r e (λ x. IsRefused (Leads 0 old new) (Fails x old new) x) is works.refused;
    }

-- ---- reading calls one after the other
-- what a space says of a refusal after calls that make no change
abbrev pub FailsOn : {S : Type 0} → (ℕ → S → S → Type 0) → (SpaceFault → S → S → Type 0) → Type 0
FailsOn {S} Leads Fails = (e : SpaceFault) (a b c : S) → Leads 0 a b → Fails e b c → Fails e a c

IsRefused-later : {A B C D : Type 0} (e : SpaceFault) → (A → C) → (B → D) → IsRefused A B e → IsRefused C D e
IsRefused-later (Damaged page) same fails is = same is
IsRefused-later NoMemory same fails (inl is) = inl (same is)
IsRefused-later NoMemory same fails (inr is) = inr (fails is)
IsRefused-later e same fails is = fails is

pub Looks-later : {S T : Type 0} (Has : Wanted → Slots → S → Type 0) (Leads : ℕ → S → S → Type 0) (Fails : SpaceFault → S → S → Type 0) (a b c : S) (r : Result T SpaceFault) → GoesOn Leads → FailsOn Leads Fails →
    Leads 0 a b → ((want : Wanted) (s : Slots) → Has want s a → Has want s b) → Looks Has Leads Fails b c r → Looks Has Leads Fails a c r
Looks-later {S} {T} Has Leads Fails a b c r goes_on fails_on first has looks = record {
  same = then r looks.same;
  leads = goes_on 0 0 a b c first looks.leads;
  fault = looks.fault;
  refused = refused r looks.refused;
}
  where
    then : (r : Result T SpaceFault) → UnlessDown r ((want : Wanted) (s : Slots) → Has want s b → Has want s c) → UnlessDown r ((want : Wanted) (s : Slots) → Has want s a → Has want s c)
    then (Ok x) left = λ want s there. left want s (has want s there)
    then (Err Fault) left = tt
    then (Err Down) left = tt
    then (Err e) left = λ want s there. left want s (has want s there)

    refused : (r : Result T SpaceFault) → IfErr r (λ e. IsRefused (Leads 0 b c) (Fails e b c) e) → IfErr r (λ e. IsRefused (Leads 0 a c) (Fails e a c) e)
    refused (Ok x) is = tt
    refused (Err e) is = IsRefused-later e (λ leads. goes_on 0 0 a b c first leads) (λ fails. fails_on e a b c first fails) is

-- ---- refusals that aren't the space's
-- memory is wanting
pub Looks-no_memory : {S T : Type 0} (Has : Wanted → Slots → S → Type 0) (Leads : ℕ → S → S → Type 0) (Fails : SpaceFault → S → S → Type 0) (old new : S) (r : Result T SpaceFault) →
    IsErrAnd r (λ x. x ≡ NoMemory) → Leads 0 old new → ((want : Wanted) (s : Slots) → Has want s old → Has want s new) → Looks Has Leads Fails old new r
Looks-no_memory {S} {T} Has Leads Fails old new r is leads has =
    Looks-passed {T = T} Has Leads Fails old new r NoMemory is (record { same = has; leads = leads; fault = tt; refused = inl leads })

-- a page is called damaged
pub Looks-damaged : {S T : Type 0} (Has : Wanted → Slots → S → Type 0) (Leads : ℕ → S → S → Type 0) (Fails : SpaceFault → S → S → Type 0) (old new : S) (page : ℕ) →
    Leads 0 old new → ((want : Wanted) (s : Slots) → Has want s old → Has want s new) → Looks {T = T} Has Leads Fails old new (Err (Damaged page))
Looks-damaged Has Leads Fails old new page leads has = record { same = has; leads = leads; fault = tt; refused = leads }

-- ---- what calls on rows cost
-- an end that makes the row's change costs as much, and another one nothing
module _ {S : Type 0} (Leads : ℕ → S → S → Type 0) (box : Method) (inst : Instance) (call : MethodCall) (rows : Rows) (old new : S) where
  pub RowCosts-made : {T : Type 0} (made : Move) (is_made : T → Bool) (x : T) → cost_of box call rows made ≡ cond (is_made x) (box.cost call rows) 0 → CostsBy Leads box inst call rows old new (Ok made)
      → RowCosts Leads is_made (GetsKey box inst call rows) (box.cost call rows) old new (Ok x)
  RowCosts-made made is_made x is costs = subst (λ (n : ℕ). LeadsWithin Leads n old new) is costs

  pub RowCosts-passed : {T : Type 0} (is_made : T → Bool) (r : Result T SpaceFault) (e : SpaceFault) → IsErrAnd r (λ x. x ≡ e) → CostsBy Leads box inst call rows old new (Err e)
      → RowCosts Leads is_made (GetsKey box inst call rows) (box.cost call rows) old new r
  RowCosts-passed is_made (Err x) e is costs = costs
  RowCosts-passed is_made (Ok x) e is costs = absurd is

  -- whatever it comes to
  pub CostsBy-within : (r : Result Move SpaceFault) → CostsBy Leads box inst call rows old new r → LeadsWithin Leads (box.cost call rows) old new
  CostsBy-within (Ok made) costs = LeadsWithin-more Leads (cost_of box call rows made) (box.cost call rows) old new (cost_of-most box call rows made) costs
  CostsBy-within (Err e) costs = ⊎_elim
      (λ (none : Leads 0 old new). LeadsWithin-none Leads (box.cost call rows) old new none)
      (λ (some : GetsKey box inst call rows × LeadsWithin Leads (box.cost call rows) old new). some.1) costs

pub placing_cost : (box : Method) (call : MethodCall) (rows : Rows) (made : Move) → IsPlacing made → cost_of box call rows made ≡ cond (has_key (placing_in made)) (box.cost call rows) 0
placing_cost box call rows (move.Key key) is = refl
placing_cost box call rows move.Duplicate is = refl
placing_cost box call rows move.Range is = refl
placing_cost box call rows made is = absurd is

pub replacing_cost : (box : Method) (call : MethodCall) (rows : Rows) (made : Move) → IsReplacing made → cost_of box call rows made ≡ cond (has_new (replacing_in made)) (box.cost call rows) 0
replacing_cost box call rows (move.Key key) is = refl
replacing_cost box call rows move.Duplicate is = refl
replacing_cost box call rows move.NoRecord is = refl
replacing_cost box call rows made is = absurd is

pub gone_cost : (box : Method) (call : MethodCall) (rows : Rows) (made : Move) → IsDoneOrNone made → cost_of box call rows made ≡ cond (is_gone made) (box.cost call rows) 0
gone_cost box call rows move.Done is = refl
gone_cost box call rows move.NoRecord is = refl
gone_cost box call rows made is = absurd is
