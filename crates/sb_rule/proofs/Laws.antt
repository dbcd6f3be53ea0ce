-- What can't stand where a rule of a code is looked for, and the one rule of a code that all of some bytes spell.
use Rattle.std.proofs.Common.{◌≡◌, ℕ, ◌≤◌, ◌<◌, List, [], ◌++◌, Bool, true, false, ℤ, pos, ◌≤ℤ◌, FitsSigned, refl, sym, ap, ◌∙◌, arith, subst}
use Rattle.std.specs.Int.{w64}
use Rattle.std.proofs.lemmas.List.{append-nil}
use Rattle.sb_pred.specs.Tree.{Tree}
use Rattle.sb_pred.specs.Reading.{IsSmall}
use Rattle.sb_pred.specs.Spelling.{name_spelling, pred_spelling, IsStorableName}
use Rattle.sb_pred.proofs.Fronts.{pred_spelling-front}
use Rattle.sb_rule.specs.Rows.{Name}
use Rattle.sb_rule.specs.declared.rule.Side.{Side}
use Rattle.sb_rule.specs.declared.rule.Side.TheVariants.{Main, Mirror}
use Rattle.sb_rule.specs.declared.rule.Mode.{Mode}
use Rattle.sb_rule.specs.declared.rule.Mode.TheVariants.{Restrict, Cascade}
use Rattle.sb_rule.specs.declared.rule.Event.{Event}
use Rattle.sb_rule.specs.declared.rule.Event.TheVariants as event
use Rattle.sb_rule.specs.declared.rule.Rule.{Rule}
use Rattle.sb_rule.specs.declared.rule.Rule.TheVariants.{TreeIndex, HashIndex, JoinIndex, Stats, Check, Refers, Trigger, Foreign}
use Rattle.sb_rule.specs.Spelling.{number_spelling, names_spelling, action_spelling, flag_byte, side_byte, mode_byte, event_byte, rule_code, rule_spelling, IsShortList, IsStorableAction, IsWidth, IsWithinLimits, SpellsRule}
use Rattle.sb_rule.specs.Reading.{IsTree, IsJoin, IsStats, IsCheck, IsRefers, IsReaction, IsTrigger, IsRuleOf, tree_parts, join_parts, stats_parts, check_parts, refers_parts, reaction_parts, trigger_parts}
use Rattle.sb_rule.proofs.Fronts.{NoneBegins, NoneStands, both, AreBoth, both_front, no_first, no_second, name_front, names_front, number_front}
use Rattle.sb_rule.proofs.Actions.{tie_front, action_front}

flag_same : (a b : Bool) → flag_byte a ≡ flag_byte b → a ≡ b
flag_same false false e = refl
flag_same true true e = refl
flag_same _ _ e = absurd (omega (arith, e))

side_same : (a b : Side) → side_byte a ≡ side_byte b → a ≡ b
side_same Main Main e = refl
side_same Mirror Mirror e = refl
side_same _ _ e = absurd (omega (arith, e))

mode_same : (a b : Mode) → mode_byte a ≡ mode_byte b → a ≡ b
mode_same Restrict Restrict e = refl
mode_same Cascade Cascade e = refl
mode_same _ _ e = absurd (omega (arith, e))

event_same : (a b : Event) → event_byte a ≡ event_byte b → a ≡ b
event_same event.Insert event.Insert e = refl
event_same event.Delete event.Delete e = refl
event_same event.Update event.Update e = refl
event_same _ _ e = absurd (omega (arith, e))

pred_front : NoneBegins (IsSmall 32) pred_spelling
pred_front p q x y f g e = pred_spelling-front p q x y f.0 g.0 e

width_front : NoneBegins IsWidth number_spelling
width_front m n x y f g e = number_front m n x y f.0 g.0 e

-- behind a number below 1 no width was found
pub no_width : (bytes behind : List ℕ) (n : ℤ) → FitsSigned w64 n → (pos 1 ≤ℤ n → ⊥) → bytes ≡ number_spelling n ++ behind → NoneStands IsWidth number_spelling bytes
no_width bytes behind n f low e m rest g k =
    let same = number_front n m behind rest f g.0 (sym e ∙ k) in
    low (subst (λ i. pos 1 ≤ℤ i) (sym same.0) g.1)

abbrev numbers_parts : ℤ × ℤ → List ℕ
numbers_parts = both (FitsSigned w64) number_spelling IsWidth number_spelling

abbrev AreNumbers : ℤ × ℤ → Type 0
AreNumbers = AreBoth (FitsSigned w64) number_spelling IsWidth number_spelling

pub no_low : (bytes behind : List ℕ) (column : Name) → IsStorableName column → bytes ≡ name_spelling column ++ behind
    → NoneStands (FitsSigned w64) number_spelling behind → NoneStands IsStats stats_parts bytes
no_low bytes behind column f e none (c, l, w) rest fits k =
    no_second IsStorableName name_spelling AreNumbers numbers_parts name_front bytes behind column f e
    (no_first (FitsSigned w64) number_spelling IsWidth number_spelling behind none) (c, (l, w)) rest (fits.0, (fits.1, fits.2)) k

pub no_width_behind : (bytes behind next : List ℕ) (column : Name) (low : ℤ) → IsStorableName column → bytes ≡ name_spelling column ++ behind
    → FitsSigned w64 low → behind ≡ number_spelling low ++ next
    → NoneStands IsWidth number_spelling next → NoneStands IsStats stats_parts bytes
no_width_behind bytes behind next column low f e g h none (c, l, w) rest fits k =
    no_second IsStorableName name_spelling AreNumbers numbers_parts name_front bytes behind column f e
    (no_second (FitsSigned w64) number_spelling IsWidth number_spelling number_front behind next low g h none)
    (c, (l, w)) rest (fits.0, (fits.1, fits.2)) k

stats_front : NoneBegins IsStats stats_parts
stats_front (c, l, w) (d, m, v) x y f g e =
    let same = both_front IsStorableName name_spelling AreNumbers numbers_parts name_front
    (both_front (FitsSigned w64) number_spelling IsWidth number_spelling number_front width_front)
    (c, (l, w)) (d, (m, v)) x y (f.0, (f.1, f.2)) (g.0, (g.1, g.2)) e in
    (λ i. ((same.0 i).0, (same.0 i).1.0, (same.0 i).1.1), same.1)

pub no_action : (bytes behind : List ℕ) (p : Tree) → IsSmall 32 p → bytes ≡ pred_spelling p ++ behind
    → NoneStands IsStorableAction action_spelling behind → NoneStands IsReaction reaction_parts bytes
no_action bytes behind p f e none (q, a) rest fits k =
    no_second (IsSmall 32) pred_spelling IsStorableAction action_spelling pred_front bytes behind p f e none (q, a) rest fits k

reaction_front : NoneBegins IsReaction reaction_parts
reaction_front (p, a) (q, b) x y f g e =
    both_front (IsSmall 32) pred_spelling IsStorableAction action_spelling pred_front action_front (p, a) (q, b) x y f g e

-- the codes of this kernel's own rules
abbrev own_code : Rule → ℕ
own_code (TreeIndex columns unique) = 1
own_code (HashIndex columns) = 2
own_code (JoinIndex side columns other others) = 3
own_code (Stats column low width) = 4
own_code (Check pred deferred) = 5
own_code (Refers side columns other others mode deferred) = 6
own_code (Trigger event pred action deferred) = 7
own_code (Foreign code desc) = 0

pub own : (rule : Rule) → IsWithinLimits rule → rule_code rule < 1000 → (rule_code rule ≡ own_code rule) × (1 ≤ own_code rule) × (own_code rule ≤ 7)
own (TreeIndex columns unique) f l = (refl, omega arith, omega arith)
own (HashIndex columns) f l = (refl, omega arith, omega arith)
own (JoinIndex side columns other others) f l = (refl, omega arith, omega arith)
own (Stats column low width) f l = (refl, omega arith, omega arith)
own (Check pred deferred) f l = (refl, omega arith, omega arith)
own (Refers side columns other others mode deferred) f l = (refl, omega arith, omega arith)
own (Trigger event pred action deferred) f l = (refl, omega arith, omega arith)
own (Foreign code desc) f l = absurd (omega (arith, f, l))

-- where the parts of a code's rules don't stand, no rule of that code stands
pub no_tree : (code : ℕ) (bytes : List ℕ) → code ≡ 1 → NoneStands IsTree tree_parts bytes → NoneStands (IsRuleOf code) rule_spelling bytes
no_tree code bytes is none (TreeIndex columns unique) rest f e = none (unique, columns) rest f.1 e
no_tree code bytes is none rule rest f e =
    let low = own rule f.2 (omega (arith, is, f.0)) in
    omega (arith, is, f.0, low.0)

pub no_hash : (code : ℕ) (bytes : List ℕ) → code ≡ 2 → NoneStands (IsShortList IsStorableName) names_spelling bytes → NoneStands (IsRuleOf code) rule_spelling bytes
no_hash code bytes is none (HashIndex columns) rest f e = none columns rest f.1 e
no_hash code bytes is none rule rest f e =
    let low = own rule f.2 (omega (arith, is, f.0)) in
    omega (arith, is, f.0, low.0)

pub no_join : (code : ℕ) (bytes : List ℕ) → code ≡ 3 → NoneStands IsJoin join_parts bytes → NoneStands (IsRuleOf code) rule_spelling bytes
no_join code bytes is none (JoinIndex side columns other others) rest f e = none (side, (columns, other, others)) rest f.1 e
no_join code bytes is none rule rest f e =
    let low = own rule f.2 (omega (arith, is, f.0)) in
    omega (arith, is, f.0, low.0)

pub no_stats : (code : ℕ) (bytes : List ℕ) → code ≡ 4 → NoneStands IsStats stats_parts bytes → NoneStands (IsRuleOf code) rule_spelling bytes
no_stats code bytes is none (Stats column low width) rest f e = none (column, low, width) rest f.1 e
no_stats code bytes is none rule rest f e =
    let low = own rule f.2 (omega (arith, is, f.0)) in
    omega (arith, is, f.0, low.0)

pub no_check : (code : ℕ) (bytes : List ℕ) → code ≡ 5 → NoneStands IsCheck check_parts bytes → NoneStands (IsRuleOf code) rule_spelling bytes
no_check code bytes is none (Check pred deferred) rest f e = none (deferred, pred) rest (f.1, f.2) e
no_check code bytes is none rule rest f e =
    let low = own rule f.2 (omega (arith, is, f.0)) in
    omega (arith, is, f.0, low.0)

pub no_refers : (code : ℕ) (bytes : List ℕ) → code ≡ 6 → NoneStands IsRefers refers_parts bytes → NoneStands (IsRuleOf code) rule_spelling bytes
no_refers code bytes is none (Refers side columns other others mode deferred) rest f e = none (side, mode, deferred, (columns, other, others)) rest f.1 e
no_refers code bytes is none rule rest f e =
    let low = own rule f.2 (omega (arith, is, f.0)) in
    omega (arith, is, f.0, low.0)

pub no_trigger : (code : ℕ) (bytes : List ℕ) → code ≡ 7 → NoneStands IsTrigger trigger_parts bytes → NoneStands (IsRuleOf code) rule_spelling bytes
no_trigger code bytes is none (Trigger event pred action deferred) rest f e = none (event, deferred, (pred, action)) rest ((f.1.0, f.2), f.1.1) e
no_trigger code bytes is none rule rest f e =
    let low = own rule f.2 (omega (arith, is, f.0)) in
    omega (arith, is, f.0, low.0)

-- no spelling of a code's rule begins another of that code
rule_front : (code : ℕ) → code < 1000 → NoneBegins (IsRuleOf code) rule_spelling
rule_front code below (TreeIndex c u) (TreeIndex d v) x y f g e =
    let flag = flag_same u v (cc) in
    let same = names_front c d x y f.1 g.1 (cc) in
    (λ i. TreeIndex (same.0 i) (flag i), same.1)
rule_front code below (HashIndex c) (HashIndex d) x y f g e =
    let same = names_front c d x y f.1 g.1 e in
    (ap HashIndex same.0, same.1)
rule_front code below (JoinIndex s a o b) (JoinIndex t c p d) x y f g e =
    let side = side_same s t (cc) in
    let same = tie_front (a, o, b) (c, p, d) x y f.1 g.1 (cc) in
    (λ i. JoinIndex (side i) (same.0 i).0 (same.0 i).1 (same.0 i).2, same.1)
rule_front code below (Stats c l w) (Stats d m v) x y f g e =
    let same = stats_front (c, l, w) (d, m, v) x y f.1 g.1 e in
    (λ i. Stats (same.0 i).0 (same.0 i).1 (same.0 i).2, same.1)
rule_front code below (Check p u) (Check q v) x y f g e =
    let flag = flag_same u v (cc) in
    let same = pred_front p q x y (f.1, f.2) (g.1, g.2) (cc) in
    (λ i. Check (same.0 i) (flag i), same.1)
rule_front code below (Refers s a o b m u) (Refers t c p d n v) x y f g e =
    let side = side_same s t (cc) in
    let mode = mode_same m n (cc) in
    let flag = flag_same u v (cc) in
    let same = tie_front (a, o, b) (c, p, d) x y f.1 g.1 (cc) in
    (λ i. Refers (side i) (same.0 i).0 (same.0 i).1 (same.0 i).2 (mode i) (flag i), same.1)
rule_front code below (Trigger k p a u) (Trigger l q b v) x y f g e =
    let kind = event_same k l (cc) in
    let flag = flag_same u v (cc) in
    let same = reaction_front (p, a) (q, b) x y ((f.1.0, f.2), f.1.1) ((g.1.0, g.2), g.1.1) (cc) in
    (λ i. Trigger (kind i) (same.0 i).0 (same.0 i).1 (flag i), same.1)
rule_front code below v w x y f g e =
    let one = own v f.2 (omega (arith, below, f.0)) in
    let other = own w g.2 (omega (arith, below, g.0)) in
    absurd (omega (arith, f.0, g.0, one.0, one.1, other.0, other.1))

-- where a rule stands at the front, a rule of that code that all of the bytes spell is that one, and nothing follows it
pub alone : (code : ℕ) (bytes behind : List ℕ) (found rule : Rule) → code < 1000 → IsRuleOf code found → bytes ≡ rule_spelling found ++ behind → SpellsRule code bytes rule
    → (found ≡ rule) × (behind ≡ [])
alone code bytes behind found rule below f e s =
    rule_front code below found rule behind [] f (s.coded, s.storable, s.limited) (sym e ∙ s.spelled ∙ sym (append-nil (rule_spelling rule)))

-- a rule of a code that all of the bytes spell stands at their front
pub stands : (code : ℕ) (bytes : List ℕ) (rule : Rule) → SpellsRule code bytes rule → bytes ≡ rule_spelling rule ++ []
stands code bytes rule s = s.spelled ∙ sym (append-nil (rule_spelling rule))
