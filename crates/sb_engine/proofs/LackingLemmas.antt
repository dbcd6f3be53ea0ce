-- Points, relations that outlive the run, and owners, where no page is left.
use Rattle.std.proofs.Common.{◌≡◌, ℕ, zero, suc, true, List, [], ◌∷◌, ◌++◌, length, length-append, append-nil, refl, sym, ap, subst, ◌∙◌, arith}
use Rattle.std.specs.List.{Any, slice_index_or}
use Rattle.std.proofs.lemmas.List.Elements.{All-weaker}
use Rattle.sb_rule.specs.declared.change.Change.{Change}
use Rattle.sb_relation.specs.Db.{Name}
use Rattle.sb_fold.specs.Extensions.{Extensions, is_durable_method}
use Rattle.sb_fold.specs.Outcome.{Reached, Trail}
use Rattle.sb_cascade.specs.Runs.{GoesOn}
use Rattle.sb_drive.specs.Slots.{Slots}
use Rattle.sb_registry.specs.Boxes.{Meanings}
use Rattle.sb_standing.specs.Asked.{change_kept, changed_kept}
use Rattle.sb_standing.specs.Tables.{Kept, Tables}
use Rattle.sb_standing.proofs.FrameLemmas.{All-unmap}
use Rattle.sb_standing.proofs.KeptChangedLemmas.{change_kept-same}
use Rattle.sb_asking.specs.Opened.{IsDurable}
use Rattle.sb_weights.specs.Weights.{AreMeant}
use Rattle.sb_weights.proofs.Meant.{lasting-are-meant}
use Rattle.sb_engine.specs.Working.{AreLasting, IsLasting, extensions_of}

-- ---- the last point of a trail
at_end : {X : Type 0} (xs : List X) (x : X) → slice_index_or (xs ++ x ∷ []) (length xs) x ≡ x
at_end [] x = refl
at_end (y ∷ xs) x = at_end xs x

pub any_last : {X : Type 0} (P : X → Type 0) (xs : List X) (x : X) → P x → Any P (xs ++ x ∷ [])
any_last P xs x is = (length xs, x, omega (arith, length-append xs (x ∷ [])), at_end xs x, is)

any_front : {X : Type 0} (P : X → Type 0) (xs ys : List X) → Any P xs → Any P (xs ++ ys)
any_front P [] ys (k, x, below, is, p) = absurd (omega (arith, below))
any_front P (y ∷ xs) ys (zero, x, below, is, p) = (zero, x, omega arith, is, p)
any_front P (y ∷ xs) ys (suc k, x, below, is, p) =
    let rest = any_front P xs ys (k, x, omega (arith, below), is, p) in
    (suc rest.0, rest.1, omega (arith, rest.2), rest.3, rest.4)

pub any_along : (P : Reached → Type 0) (from to : Trail) → GoesOn from to → Any P from.points → Any P to.points
any_along P from to goes any = subst (Any P) (sym goes.more) (any_front P from.points goes.points any)

pub goes_none : (trail : Trail) → GoesOn trail trail
goes_none trail = record { points = []; more = sym (append-nil trail.points); spent = omega arith }

-- ---- relations that outlive the run
pub all_meant : (m : Meanings) (root : ℕ) (s : Slots) (kept : List Kept) → AreLasting kept → Tables m IsDurable root s kept → AreMeant (extensions_of m) kept
all_meant m root s kept lasting tables =
    lasting-are-meant m IsDurable root s kept (λ code. refl) (All-unmap IsLasting (λ (k : Kept). k.descriptor) kept lasting) tables

-- they did before a change
pub meant_before : (ext : Extensions) (name : Name) (c : Change) (before : List Kept) → AreMeant ext (changed_kept name c before) → AreMeant ext before
meant_before ext name c before all =
    All-weaker (λ k. is_durable_method ext (change_kept name c k).relation.method ≡ true) (λ k. is_durable_method ext k.relation.method ≡ true)
    (λ k is. ap (is_durable_method ext) (sym (change_kept-same (λ x. x.relation.method) name c (λ x. refl) k)) ∙ is) before
    (All-unmap (λ (k : Kept). is_durable_method ext k.relation.method ≡ true) (change_kept name c) before all)
