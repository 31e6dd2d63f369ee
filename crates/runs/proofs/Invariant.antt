-- What is kept from the seal on: the body is valid, what it records is justified, and its runs tell what the sealed body's do.
use Rattle.std.proofs.Common.{◌≡◌, ℕ, ◌<◌, ◌⊎◌, List, length, Some, refl, inl, inr}
use Rattle.hir.specs.Body.{Body, Constant, block_at, record_at}
use Rattle.hir.specs.Lists.{Mem}
use Rattle.hir.specs.Places.{texts_named}
use Rattle.hir.specs.Script.{Block, Instruction, Terminal}
use Rattle.runs.proofs.Monotone.{zip_self}
use Rattle.runs.proofs.NearRuns.{Alike, NearBlock, runs_near}
use Rattle.runs.proofs.Senses.{Known, Knowledge, True, knowledge}
use Rattle.runs.proofs.TextsKept.{constant_texts}
use Rattle.runs.proofs.ValidBodies.{Just, Valid, assigned_in}
use Rattle.runs.specs.Folds.{Within, always}
use Rattle.runs.specs.Law.{SameTelling}
use Rattle.runs.specs.Rounds.{HostMeaning}
use Rattle.runs.specs.Runs.{Answer, Assignment, Run, World, run_of}

abbrev pub Agrees : HostMeaning → World → Type 0
Agrees host w = Within host.conversions (always w.conversions)

abbrev pub known_in : Body → Knowledge
known_in B = knowledge B.texts B.records

-- nothing in the body assigns x
pub record Absent (B : Body) (x : ℕ) : Type 0 where
  pub no_parameter : Mem x B.parameters → ⊥
  pub no_block : (b : ℕ) → Mem x (assigned_in (block_at B.blocks b)) → ⊥

-- r is a run of the sealed body and q of the present one: they tell the same; what r assigns q assigns too, unless nothing does any more;
-- and r is true to what is recorded
pub record KeptRun (w : World) (B : Body) (r q : Run) : Type 0 where
  pub same : SameTelling r q
  pub traced : (a : Assignment) → Mem a r.assignments → Mem a q.assignments ⊎ Absent B a.place
  pub sound : True w (known_in B) r.assignments

pub record Static (host : HostMeaning) (B : Body) : Type 0 where
  pub valid : Valid B.parameters B.blocks
  pub code_texts : (b : ℕ) (i : Instruction) → Mem i (block_at B.blocks b).code → (t : ℕ) → Mem t (texts_named i) → t < length B.texts
  pub record_texts : (x : ℕ) (c : Constant) → record_at B.records x ≡ Some c → (t : ℕ) → Mem t (constant_texts c) → t < length B.texts
  pub just : Just host.conversions B.texts (known_in B) B.parameters B.blocks

pub record Inv (host : HostMeaning) (S B : Body) : Type 0 where
  pub static : Static host B
  pub kept : (w : World) → Agrees host w → (answers : List Answer) (n : ℕ) → KeptRun w B (run_of w answers n S) (run_of w answers n B)

-- ---- a body is near itself

pub near_self : (w : World) (κ : Knowledge) (T : List (List ℕ)) (B : Block Terminal) → NearBlock w κ T T B B
near_self w κ T B = record { same_phis = refl; near_code = zip_self (Alike w κ T T) (λ i. record { writing = refl; meant = λ t tr h. refl }) B.code; binding = refl; turning = λ t tr h. refl }

-- ---- steps whose runs are the same

-- B becomes C, whose blocks come to the same; more may be known, but only of what is assigned.
pub near_step : (host : HostMeaning) (S B C : Body) → C.parameters ≡ B.parameters → Inv host S B → Static host C
    → ((w : World) → Agrees host w → (b : ℕ) → NearBlock w (known_in B) B.texts C.texts (block_at B.blocks b) (block_at C.blocks b))
    → ((x : ℕ) (k : Known) → known_in C x ≡ Some k → (known_in B x ≡ Some k) ⊎ (Absent B x → ⊥))
    → ((x : ℕ) → Absent B x → Absent C x)
    → Inv host S C
near_step host S B C params inv st near changed absent = record { static = st; kept = kept' }
  where
    kept' : (w : World) → Agrees host w → (answers : List Answer) (n : ℕ) → KeptRun w C (run_of w answers n S) (run_of w answers n C)
    kept' w ag answers n =
        let ok = inv.kept w ag answers n in
        let now = runs_near w host.conversions ag (known_in B) B.texts C.texts B.parameters B.blocks C.blocks inv.static.valid inv.static.just (near w ag) answers n in
        let moved : run_of w answers n C ≡ run_of w answers n B = rw params now.0 in
        let self = runs_near w host.conversions ag (known_in C) C.texts C.texts C.parameters C.blocks C.blocks st.valid st.just (λ b. near_self w (known_in C) C.texts (block_at C.blocks b)) answers n in
        record {
          same = rw moved ok.same;
          traced = λ a m. elim (ok.traced a m) [ inl h ↦ inl (rw moved h) | inr h ↦ inr (absent a.place h) ];
          sound = λ a m k e. elim (ok.traced a m) [
            | inl h ↦ self.1 a (rw moved h) k e
            | inr h ↦ elim (changed a.place k e) [ inl old ↦ ok.sound a m k old | inr no' ↦ absurd (no' h) ]
          ];
        }
