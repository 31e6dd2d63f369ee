-- The law that folding keeps: whatever rounds, tidies and questions are called on a body that the seal accepted, in any order that the
-- stages allow, its runs stay the same, what is recorded is true in them, and a completed round leaves no If that is known.
use Rattle.std.specs.Prelude.{◌≡◌, ℕ, ◌≤◌, true, false, List, Some, None, slice_index_or}
use Rattle.ecma.specs.Value.{Primitive}
use Rattle.hir.specs.Body.{Body, Test, block_at, if_of, sealing}
use Rattle.hir.specs.Lists.{Mem}
use Rattle.hir.specs.Script.{Script}
use Rattle.hir.specs.Seal.{Drafted, SealAccepts}
use Rattle.runs.specs.Calls.{Calls, Last, Stage, completed_round}
use Rattle.runs.specs.Folds.{Within, always}
use Rattle.runs.specs.Rounds.{HostMeaning, known}
use Rattle.runs.specs.Runs.{Answer, Assignment, Run, World, plain, run_of}

-- (a) Two runs tell the same events, in the same order, come to the same last block and end the same way.
pub record SameTelling (r q : Run) : Type 0 where
  pub events : r.events ≡ q.events
  pub last : r.last ≡ q.last
  pub ending : r.ending ≡ q.ending

-- (b) An identifier that is recorded as a primitive receives exactly that value at every assignment, in every run of the body as sealed.
abbrev pub RecordsHold : World → (start now : Body) → Type 0
RecordsHold w start now =
    (answers : List Answer) (n : ℕ) (a : Assignment) → Mem a (run_of w answers n start).assignments
    → (v : Primitive) → known now a.place ≡ Some v → a.value' ≡ plain v

-- (c) No If in a standing block tests an identifier that is recorded as a primitive.
abbrev pub NoKnownTest : Body → Type 0
NoKnownTest B =
    (b : ℕ) → slice_index_or B.stands b false ≡ true → (t : Test) → if_of (block_at B.blocks b).terminal ≡ Some t → known B t.test ≡ None

pub record Kept (w : World) (start now : Body) (l : Last) : Type 0 where
  pub telling : (answers : List Answer) (n : ℕ) → SameTelling (run_of w answers n start) (run_of w answers n now)
  pub holding : RecordsHold w start now
  pub settling : l ≡ completed_round → NoKnownTest now

-- For every script that adding lets in and the seal accepts, every host meaning, every list of calls, and all conversions of a run that
-- agree with the host wherever it answers.
abbrev pub Law : Type 0
Law =
    (identifiers room : ℕ) (s : Script) → Drafted identifiers s → SealAccepts room s
    → (host : HostMeaning) (g : Stage) (now : Body) (l : Last) → Calls host (sealing identifiers s) g now l
    → (w : World) → Within host.conversions (always w.conversions)
    → Kept w (sealing identifiers s) now l

-- ---- what is known of calls without runs

-- After any list of calls the Ifs that were turned are at most those that were sealed.
abbrev pub TurnedWithinSealed : Type 0
TurnedWithinSealed =
    (identifiers : ℕ) (s : Script) (host : HostMeaning) (g : Stage) (now : Body) (l : Last)
    → Calls host (sealing identifiers s) g now l → now.turned_ifs ≤ now.sealed_ifs
