-- Instructions and terminals that read other identifiers: each that is read, x, is f x. What they write stays.
use Rattle.std.specs.Prelude.{ℕ, map}
use Rattle.hir.specs.Script.{Case, Dependency, Instruction, Terminal}
use Rattle.hir.specs.Script.{named_local, global_name}
use Rattle.hir.specs.Script.{load_local, store_local, primitive, binary, unary, property_store, property_load, computed_store, computed_load, load_global, template, prefix_update, postfix_update, start_memoize, opaque}
use Rattle.hir.specs.Script.{unreachable, throw, return, goto, if, branch, switch, do_while, while, for, for_of, for_in, logical, ternary, optional, label, sequence, maybe_throw, try, scope, pruned_scope}
use Rattle.std.specs.Option.{option_map}

abbrev pub renamed_dependency : (ℕ → ℕ) → Dependency → Dependency
renamed_dependency f (named_local x c) = named_local (f x) c
renamed_dependency f (global_name t) = global_name t

abbrev pub renamed_instruction : (ℕ → ℕ) → Instruction → Instruction
renamed_instruction f (load_local x y s) = load_local x (f y) s
renamed_instruction f (store_local x p k y s) = store_local x p k (f y) s
renamed_instruction f (primitive x l s) = primitive x l s
renamed_instruction f (binary x o y z s) = binary x o (f y) (f z) s
renamed_instruction f (unary x o y s) = unary x o (f y) s
renamed_instruction f (property_store x o p v s) = property_store x (f o) p (f v) s
renamed_instruction f (property_load x o p s) = property_load x (f o) p s
renamed_instruction f (computed_store x o p v s) = computed_store x (f o) (f p) (f v) s
renamed_instruction f (computed_load x o p s) = computed_load x (f o) (f p) s
renamed_instruction f (load_global x b s) = load_global x b s
renamed_instruction f (template x ys qs s) = template x (map f ys) qs s
renamed_instruction f (prefix_update x p o y s) = prefix_update x p o (f y) s
renamed_instruction f (postfix_update x p o y s) = postfix_update x p o (f y) s
renamed_instruction f (start_memoize x m ds i s) = start_memoize x m (option_map (map (renamed_dependency f)) ds) i s
renamed_instruction f (opaque k ys xs) = opaque k (map f ys) xs

abbrev pub renamed_case : (ℕ → ℕ) → Case → Case
renamed_case f c = record { test = option_map f c.test; block = c.block }

abbrev pub renamed_terminal : (ℕ → ℕ) → Terminal → Terminal
renamed_terminal f (unreachable s) = unreachable s
renamed_terminal f (throw x s) = throw (f x) s
renamed_terminal f (return x v s) = return (f x) v s
renamed_terminal f (goto b v s) = goto b v s
renamed_terminal f (if x c a l s) = if (f x) c a l s
renamed_terminal f (branch x c a l s) = branch (f x) c a l s
renamed_terminal f (switch x cs l s) = switch (f x) (map (renamed_case f) cs) l s
renamed_terminal f (do_while b t l s) = do_while b t l s
renamed_terminal f (while t b l s) = while t b l s
renamed_terminal f (for i t u b l s) = for i t u b l s
renamed_terminal f (for_of i t b l s) = for_of i t b l s
renamed_terminal f (for_in i b l s) = for_in i b l s
renamed_terminal f (logical o t l s) = logical o t l s
renamed_terminal f (ternary t l s) = ternary t l s
renamed_terminal f (optional o t l s) = optional o t l s
renamed_terminal f (label b l s) = label b l s
renamed_terminal f (sequence b l s) = sequence b l s
renamed_terminal f (maybe_throw c h s) = maybe_throw c h s
renamed_terminal f (try b x h l s) = try b x h l s
renamed_terminal f (scope l b i s) = scope l b i s
renamed_terminal f (pruned_scope l b i s) = pruned_scope l b i s
