-- Calls on a body, one after another: rounds, tidies and questions, as the stages allow.
use Rattle.std.specs.Prelude.{◌≡◌, ℕ, Bool, false, cond, List, is_some, Some, Option, Result, nat_lt}
use Rattle.hir.specs.Body.{Body, Constant}
use Rattle.hir.specs.Lists.{flat_map}
use Rattle.hir.specs.Script.{Instruction, Terminal}
use Rattle.runs.specs.Rounds.{HostMeaning, Progress, Room, meets_both_zeros, round}
use Rattle.runs.specs.Tidies.{tidy}
use Rattle.std.specs.Option.{option_map, ok_or}
use Rattle.std.specs.List.{slice_get}
use Rattle.table.specs.declared.refusal.Cause.TheVariants as cause
use Rattle.table.specs.declared.refusal.Layer.TheVariants as layer
use Rattle.table.specs.declared.refusal.Refusal.{Refusal}
use Rattle.table.specs.declared.refusal.Site.TheVariants as site

-- ---- rounds

-- A body is **stale** after a round, completed or stopped, that turned an If, until it is tidied; otherwise it is **settled**. A round
-- takes a settled body, a tidy either.
pub data Stage : Type 0 where
  settled : Stage
  stale : Stage

abbrev pub turned_any : Body → Progress → Bool
turned_any B p = nat_lt B.turned_ifs p.body.turned_ifs

abbrev pub stage_after : Body → Progress → Stage
stage_after B p = cond (turned_any B p) stale settled

-- what a round answers: whether it turned any If, and where it stopped, if it did
pub record RoundAnswer : Type 0 where
  pub turned : Bool
  pub stop : Option Refusal

abbrev pub answer_of : Body → Progress → RoundAnswer
answer_of B p = record {
  turned = turned_any B p;
  stop = option_map (λ n. record { cause = cause.TextDoesNotFit; layer = layer.Round; site = site.Instruction n }) p.stop;
}

-- ---- questions

pub data Question : Type 0 where
  record_of : (identifier : ℕ) → Question
  terminal_of : (block : ℕ) → Question
  predecessors_of : (block : ℕ) → Question
  whether_stands : (block : ℕ) → Question
  instruction_of : (number : ℕ) → Question
  bytes_of : (text : ℕ) → Question
  turned_ifs : Question

pub data Reply : Type 0 where
  a_record : Option Constant → Reply
  a_terminal : Terminal → Reply
  blocks : List ℕ → Reply
  truth : Bool → Reply
  an_instruction : Instruction → Reply
  bytes : List ℕ → Reply
  count : ℕ → Reply

-- the number that is asked about
abbrev pub number_asked : Question → ℕ
number_asked (record_of x) = x
number_asked (terminal_of b) = b
number_asked (predecessors_of b) = b
number_asked (whether_stands b) = b
number_asked (instruction_of n) = n
number_asked (bytes_of t) = t
number_asked turned_ifs = 0

-- Instructions are numbered through all blocks. There is no reply where the number names nothing.
abbrev pub reply : Body → Question → Option Reply
reply B (record_of x) = option_map a_record (slice_get B.records x)
reply B (terminal_of b) = option_map (λ C. a_terminal C.terminal) (slice_get B.blocks b)
reply B (predecessors_of b) = option_map blocks (slice_get B.predecessors b)
reply B (whether_stands b) = option_map truth (slice_get B.stands b)
reply B (instruction_of n) = option_map an_instruction (slice_get (flat_map (λ C. C.code) B.blocks) n)
reply B (bytes_of t) = option_map bytes (slice_get B.texts t)
reply B turned_ifs = Some (count B.turned_ifs)

abbrev pub answered : Body → Question → Result Reply Refusal
answered B q = ok_or (reply B q) (record { cause = cause.NamesNothing; layer = layer.Question; site = site.Asked (number_asked q) })

-- ---- lists of calls

-- what the last call was
pub data Last : Type 0 where
  none : Last
  completed_round : Last
  stopped_round : Last
  tidied : Last
  asked : Last

abbrev pub last_of : Progress → Last
last_of p = cond (is_some p.stop) stopped_round completed_round

-- From the body `start`, newly sealed, calls have led to a body: with its stage, and what the last call was. One host serves all rounds;
-- the room for texts is whatever it is at each. No round met recorded zeros of both signs at one phi.
pub data Calls (host : HostMeaning) (start : Body) : Stage → Body → Last → Type 0 where
  begun : Calls host start settled start none
  rounded : {B : Body} {l : Last} (room : Room) → Calls host start settled B l → meets_both_zeros host room B ≡ false
      → Calls host start (stage_after B (round host room B)) (round host room B).body (last_of (round host room B))
  tidying : {g : Stage} {B : Body} {l : Last} → Calls host start g B l → Calls host start settled (tidy B) tidied
  asking : {g : Stage} {B : Body} {l : Last} (q : Question) → Calls host start g B l → Calls host start g B asked
