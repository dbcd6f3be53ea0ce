-- A transaction has at most 64 savepoints; a rollback drops the later ones and keeps its own.
use Rattle.std.specs.Prelude.{◌≡◌, refl, ℕ, codes, List, [], ◌∷◌, ◌++◌, map}
use Rattle.std.specs.List.{range_with_len}
use Rattle.std.specs.Fmt.{decimal, digits}
use Rattle.sb_plain.specs.declared.command.Command.TheVariants as command
use Rattle.sb_plain.proofs.Scripts.{Asked, ask, answers, replies_of, printed, lines_of, start, spare}

-- the savepoint of a number
abbrev point : ℕ → List ℕ
point n = codes "s" ++ decimal n

abbrev saved : ℕ → List ℕ → Asked
saved n reply = ask (command.Savepoint (point n)) (codes "savepoint " ++ point n) [] reply

abbrev script : List Asked
script =
    (ask command.Begin (codes "begin") [] (codes "ok") ∷ map (λ n. saved n (codes "ok")) (range_with_len 0 64))
    ++ saved 64 (codes "! limit")
    ∷ saved 3 (codes "! exists s3")
    ∷ ask (command.Rollback (point 9)) (codes "rollback s9") [] (codes "ok")
    ∷ ask (command.Rollback (point 10)) (codes "rollback s10") spare (codes "! noname s10")
    ∷ ask (command.Rollback (point 9)) (codes "rollback s9") [] (codes "ok")
    ∷ saved 64 (codes "ok")
    ∷ ask command.Abort (codes "abort") [] (codes "ok")
    ∷ ask command.Abort (codes "abort") spare (codes "! state")
    ∷ []

plays : answers start script ≡ replies_of script
unfolding digits
plays = refl

prints : printed script ≡ lines_of script
unfolding digits
prints = refl
