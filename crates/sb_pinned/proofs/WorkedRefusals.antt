-- What each command is refused for beforehand, one cause at a time.
use Rattle.std.specs.Prelude.{◌≡◌, refl, ℕ, true, false, codes, List, [], ◌∷◌, map, replicate, Option, Some, None, pos}
use Rattle.sb_value.specs.declared.value.Value.TheVariants.{Text}
use Rattle.sb_pred.specs.declared.predicate.Term.TheVariants.{Const, New}
use Rattle.sb_pred.specs.Tree.{Always}
use Rattle.sb_rule.specs.declared.action.Action.TheVariants as action
use Rattle.sb_rule.specs.declared.rule.Event.TheVariants as event
use Rattle.sb_rule.specs.declared.rule.Mode.TheVariants.{Restrict}
use Rattle.sb_rule.specs.declared.rule.Side.TheVariants.{Main, Mirror}
use Rattle.sb_rule.specs.declared.rule.Rule.TheVariants.{TreeIndex, HashIndex, JoinIndex, Stats, Check, Refers, Trigger}
use Rattle.sb_rule.specs.Spelling.{number_spelling}
use Rattle.sb_relation.specs.Db.{Name, Row, Attached, Db}
use Rattle.sb_fold.specs.declared.refusal.Refusal.{Refusal}
use Rattle.sb_fold.specs.declared.refusal.Refusal.TheVariants.{NoRelation, Exists, NoName, NoExtension, InUse, Mistyped, Mixed}
use Rattle.sb_plain.specs.declared.command.Command.{Command}
use Rattle.sb_plain.specs.declared.command.Command.TheVariants as command
use Rattle.sb_plain.specs.Refusing.{refused}
use Rattle.sb_pinned.proofs.Samples.{int, one, two, slot, a, b, l, r, t, z, numbers, named, heap, tree, temp}
use Rattle.sb_pinned.proofs.Scripts.{none, over}

abbrev refusals : Db → List Command → List (Option Refusal)
refusals db commands = map (refused none (over db)) commands

-- so many commands are refused so
abbrev each : ℕ → Refusal → List (Option Refusal)
each n r = replicate n (Some r)

-- ---- relations that aren't there
abbrev i : Name
i = codes "i"

each_command_wants_its_relation :
    refusals []
    (command.Drop z
    ∷ command.Attach z i (HashIndex (a ∷ []))
    ∷ command.Detach z i
    ∷ command.Insert z (one 1)
    ∷ command.Delete z (slot 0)
    ∷ command.Update z (slot 0) (one 1)
    ∷ command.Act (action.Delete z [])
    ∷ command.Act (action.Set z a (Const (int 1)) [])
    ∷ command.Act (action.Add z a (Const (int 1)) [])
    ∷ command.Get z (slot 0)
    ∷ command.Scan z None None
    ∷ command.Lookup z i (one 1)
    ∷ command.Range z i (one 1) (one 2)
    ∷ command.Entries z i
    ∷ command.Show z
    ∷ [])
    ≡ each 15 (NoRelation z)
each_command_wants_its_relation = refl

-- t and r are there, z and y aren't: the first in the order of the line
abbrev y : Name
y = codes "y"

abbrev there : Db
there = (r, heap [] []) ∷ (t, heap (named (codes "s") (Stats a (pos 0) (pos 1)) ∷ named (codes "k") (Check Always false) ∷ []) []) ∷ []

the_own_relation_comes_before_the_other :
    refusals there
    (command.Attach z i (JoinIndex Main (a ∷ []) y (a ∷ []))
    ∷ command.Attach z i (Refers Main (a ∷ []) y (a ∷ []) Restrict false)
    ∷ command.Attach z i (Trigger event.Insert Always (action.Delete y []) false)
    ∷ command.Attach z i (JoinIndex Main (a ∷ []) r (a ∷ []))
    ∷ [])
    ≡ each 4 (NoRelation z)
the_own_relation_comes_before_the_other = refl

the_other_relation_is_wanted_too :
    refusals there
    (command.Attach t i (JoinIndex Main (a ∷ []) z (a ∷ []))
    ∷ command.Attach t i (Refers Main (a ∷ []) z (a ∷ []) Restrict false)
    ∷ command.Attach t i (Trigger event.Insert Always (action.Insert z []) false)
    ∷ command.Attach t i (Trigger event.Insert Always (action.Delete z []) false)
    ∷ command.Attach t i (Trigger event.Insert Always (action.Set z a (Const (int 1)) []) false)
    ∷ command.Attach t i (Trigger event.Insert Always (action.Add z a (Const (int 1)) []) false)
    ∷ [])
    ≡ each 6 (NoRelation z)
the_other_relation_is_wanted_too = refl

-- ---- names that are to be new: the relation's or the attachment's first, then each list
names_that_are_there :
    refusals there
    (command.Create t 1 numbers []
    ∷ command.Create t 2 numbers (a ∷ a ∷ [])
    ∷ command.Attach t (codes "s") (HashIndex (a ∷ []))
    ∷ command.Attach t (codes "s") (HashIndex (a ∷ a ∷ []))
    ∷ command.Attach t (codes "k") (HashIndex (a ∷ []))
    ∷ [])
    ≡ Some (Exists t) ∷ Some (Exists t) ∷ Some (Exists (codes "s")) ∷ Some (Exists (codes "s")) ∷ Some (Exists (codes "k")) ∷ []
names_that_are_there = refl

columns_that_stand_twice :
    refusals there
    (command.Create z 2 numbers (b ∷ b ∷ [])
    ∷ command.Attach t i (TreeIndex (b ∷ b ∷ []) false)
    ∷ command.Attach t i (HashIndex (b ∷ b ∷ []))
    ∷ command.Attach t i (HashIndex (a ∷ b ∷ b ∷ a ∷ []))
    ∷ command.Attach t i (JoinIndex Main (b ∷ b ∷ []) r (a ∷ b ∷ []))
    ∷ command.Attach t i (JoinIndex Main (a ∷ b ∷ []) r (b ∷ b ∷ []))
    ∷ command.Attach t i (JoinIndex Main (b ∷ b ∷ []) r (a ∷ a ∷ []))
    ∷ command.Attach t i (Refers Main (b ∷ b ∷ []) r (a ∷ b ∷ []) Restrict false)
    ∷ command.Attach t i (Refers Main (a ∷ b ∷ []) r (b ∷ b ∷ []) Restrict false)
    ∷ command.Attach t i (Refers Main (b ∷ b ∷ []) r (a ∷ a ∷ []) Restrict false)
    ∷ [])
    ≡ each 10 (Exists b)
columns_that_stand_twice = refl

-- one column may stand in both lists, and a column twice in a condition
columns_that_stand_once :
    refusals there
    (command.Create z 2 numbers (b ∷ a ∷ [])
    ∷ command.Attach t i (JoinIndex Main (a ∷ b ∷ []) r (b ∷ a ∷ []))
    ∷ command.Act (action.Delete t ((a, Const (int 1)) ∷ (a, Const (int 1)) ∷ []))
    ∷ [])
    ≡ None ∷ None ∷ None ∷ []
unfolding number_spelling
columns_that_stand_once = refl

-- ---- names that are to be there
attachments_and_columns_that_are_not_there :
    refusals there
    (command.Detach t z
    ∷ command.Lookup t z (one 1)
    ∷ command.Range t z (one 1) (one 2)
    ∷ command.Entries t z
    ∷ command.Create (codes "u") 2 numbers (a ∷ z ∷ [])
    ∷ command.Attach t i (Stats z (pos 0) (pos 1))
    ∷ command.Act (action.Delete t ((z, Const (int 1)) ∷ []))
    ∷ command.Act (action.Set t z (Const (int 1)) [])
    ∷ command.Act (action.Add t z (Const (int 1)) [])
    ∷ [])
    ≡ each 9 (NoName z)
attachments_and_columns_that_are_not_there = refl

-- ---- codes that aren't live or spare
codes_that_are_not_there :
    refusals there
    (command.Create z 99 numbers []
    ∷ command.Register true 99
    ∷ command.Register false 99
    ∷ command.Retire true 99
    ∷ command.Retire false 99
    ∷ command.Register true 1
    ∷ command.Register false 7
    ∷ command.Retire true 4
    ∷ [])
    ≡ Some (NoExtension 99) ∷ Some (NoExtension 99) ∷ Some (NoExtension 99) ∷ Some (NoExtension 99) ∷ Some (NoExtension 99)
    ∷ Some (NoExtension 1) ∷ Some (NoExtension 7) ∷ Some (NoExtension 4) ∷ []
codes_that_are_not_there = refl

-- ---- what is in use: the first by relation and in call order
abbrev index : Name → Attached
index name = named name (TreeIndex (a ∷ []) false)

-- t is joined with l and with r, and refers to l; l and t have indexes, t is a tree; mirrors stand before their main instances
abbrev used : Db
used = (
  l,
  heap
      (index (codes "q") ∷ index (codes "p")
      ∷ named (codes "t.j") (JoinIndex Mirror (a ∷ []) t (a ∷ []))
      ∷ named (codes "t.f") (Refers Mirror (a ∷ []) t (a ∷ []) Restrict false) ∷ [])
      [],
)
    ∷ (
      r,
      heap
          (named (codes "t.k") (JoinIndex Mirror (a ∷ []) t (a ∷ []))
          ∷ named (codes "g") (Trigger event.Insert Always (action.Delete l []) false) ∷ [])
          [],
    )
    ∷ (
      t,
      tree
          (index (codes "i")
          ∷ named (codes "j") (JoinIndex Main (a ∷ []) l (a ∷ []))
          ∷ named (codes "k") (JoinIndex Main (a ∷ []) r (a ∷ []))
          ∷ named (codes "c") (Check Always false) ∷ named (codes "d") (Check Always true)
          ∷ named (codes "f") (Refers Main (a ∷ []) l (a ∷ []) Restrict false)
          ∷ named (codes "h") (Trigger event.Insert Always (action.Delete t []) false) ∷ [])
          [],
    )
    ∷ []

-- a mirror counts as well as a main instance
codes_that_are_in_use :
    map (λ code. refused none (over used) (command.Retire false code)) (1 ∷ 2 ∷ 3 ∷ 4 ∷ 5 ∷ 6 ∷ 7 ∷ [])
    ≡ Some (InUse l (codes "q")) ∷ None ∷ Some (InUse l (codes "t.j")) ∷ None ∷ Some (InUse t (codes "c")) ∷ Some (InUse l (codes "t.f")) ∷ Some (InUse r (codes "g")) ∷ []
codes_that_are_in_use = refl

methods_that_are_in_use : map (λ code. refused none (over used) (command.Retire true code)) (1 ∷ 2 ∷ 3 ∷ []) ≡ Some (InUse l (codes "-")) ∷ Some (InUse t (codes "-")) ∷ None ∷ []
methods_that_are_in_use = refl

-- a mirror doesn't hold its main instance's relation in use, nor does a relation its own; a trigger and a main instance do
relations_that_are_in_use : refusals used (command.Drop l ∷ command.Drop r ∷ command.Drop t ∷ []) ≡ Some (InUse r (codes "g")) ∷ Some (InUse t (codes "k")) ∷ None ∷ []
relations_that_are_in_use = refl

-- ---- look-ups and ranges
abbrev indexed : Db
indexed =
    (l, heap (named (codes "t.j") (JoinIndex Mirror (a ∷ []) t (a ∷ [])) ∷ []) [])
    ∷ (
      t,
      heap
          (index (codes "i")
          ∷ named (codes "h") (HashIndex (a ∷ []))
          ∷ named (codes "j") (JoinIndex Main (a ∷ []) l (a ∷ []))
          ∷ named (codes "s") (Stats a (pos 0) (pos 1))
          ∷ named (codes "c") (Check Always false)
          ∷ named (codes "g") (Trigger event.Insert Always (action.Delete t []) false) ∷ [])
          [],
    )
    ∷ []

abbrev looks : List Name → List (Option Refusal)
looks names = map (λ name. refused none (over indexed) (command.Lookup t name (one 1))) names

abbrev ranges : List Name → List (Option Refusal)
ranges names = map (λ name. refused none (over indexed) (command.Range t name (one 1) (one 2))) names

abbrev each_attachment : List Name
each_attachment = codes "i" ∷ codes "h" ∷ codes "j" ∷ codes "s" ∷ codes "c" ∷ codes "g" ∷ []

indexes_alone_are_looked_up : looks each_attachment ≡ None ∷ None ∷ Some Mistyped ∷ Some Mistyped ∷ Some Mistyped ∷ Some Mistyped ∷ []
indexes_alone_are_looked_up = refl

tree_indexes_alone_have_ranges : ranges each_attachment ≡ None ∷ Some Mistyped ∷ Some Mistyped ∷ Some Mistyped ∷ Some Mistyped ∷ Some Mistyped ∷ []
tree_indexes_alone_have_ranges = refl

-- both ends are of the columns' kinds and number
abbrev text : Row
text = Text (codes "x") ∷ []

both_ends_of_a_range_fit_its_columns :
    refusals indexed
    (command.Range t (codes "i") text (one 2)
    ∷ command.Range t (codes "i") (one 1) text
    ∷ command.Range t (codes "i") (two 1 1) (one 2)
    ∷ command.Range t (codes "i") (one 1) (two 2 2)
    ∷ command.Range t (codes "i") [] (one 2)
    ∷ command.Range t (codes "i") (one 1) []
    ∷ command.Lookup t (codes "i") text
    ∷ command.Lookup t (codes "i") (two 1 1)
    ∷ command.Lookup t (codes "h") []
    ∷ [])
    ≡ each 9 Mistyped
both_ends_of_a_range_fit_its_columns = refl

-- ---- ties: l and r outlive the run, t and u end with it
abbrev mixed : Db
mixed = (l, heap [] []) ∷ (r, tree [] []) ∷ (t, temp [] []) ∷ (codes "u", temp [] []) ∷ []

abbrev ties : Name → Name → List (Option Refusal)
ties name other =
    refusals mixed
    (command.Attach name i (JoinIndex Main (a ∷ []) other (a ∷ []))
    ∷ command.Attach name i (Refers Main (a ∷ []) other (a ∷ []) Restrict false)
    ∷ command.Attach name i (Trigger event.Insert Always (action.Insert other (New a ∷ New b ∷ [])) false)
    ∷ [])

both_outlive_the_run : ties l r ≡ None ∷ None ∷ None ∷ []
both_outlive_the_run = refl

both_end_with_the_run : ties t (codes "u") ≡ None ∷ None ∷ None ∷ []
both_end_with_the_run = refl

one_ends_with_the_run : ties l t ≡ each 3 Mixed
one_ends_with_the_run = refl

the_other_outlives_it : ties t r ≡ each 3 Mixed
the_other_outlives_it = refl

-- none is joined with itself, and others may be tied to themselves
a_relation_and_itself : map (λ name. ties name name) (l ∷ t ∷ []) ≡ (Some Mixed ∷ None ∷ None ∷ []) ∷ (Some Mixed ∷ None ∷ None ∷ []) ∷ []
a_relation_and_itself = refl
