-- What each instruction and terminal reads and writes, and where a terminal leads, in the order of the source's visitors; and the blocks and
-- texts that they name, in the order of their fields.
use Rattle.std.specs.Prelude.{ℕ, List, [], ◌∷◌, ◌++◌, map, Some, None, Option, Float}
use Rattle.hir.specs.Lists.{flat_map, listed}
use Rattle.hir.specs.Script.{Binding, Dependency, Instruction, Literal, Property, Terminal}
use Rattle.hir.specs.Script.{import_default, import_specifier, import_namespace, module_local, global}
use Rattle.hir.specs.Script.{named_local, global_name}
use Rattle.hir.specs.Script.{name, index}
use Rattle.hir.specs.Script.{null, undefined, boolean, number, text}
use Rattle.hir.specs.Script.{load_local, store_local, primitive, binary, unary, property_store, property_load, computed_store, computed_load, load_global, template, prefix_update, postfix_update, start_memoize, opaque}
use Rattle.hir.specs.Script.{unreachable, throw, return, goto, if, branch, switch, do_while, while, for, for_of, for_in, logical, ternary, optional, label, sequence, maybe_throw, try, scope, pruned_scope}

-- ---- identifiers

abbrev pub dependency_reads : Dependency → List ℕ
dependency_reads (named_local x c) = x ∷ []
dependency_reads (global_name t) = []

abbrev pub memo_reads : Option (List Dependency) → List ℕ
memo_reads None = []
memo_reads (Some ds) = flat_map dependency_reads ds

abbrev pub reads : Instruction → List ℕ
reads (load_local x y s) = y ∷ []
reads (store_local x p k y s) = y ∷ []
reads (primitive x l s) = []
reads (binary x o y z s) = y ∷ z ∷ []
reads (unary x o y s) = y ∷ []
reads (property_store x o p v s) = o ∷ v ∷ []
reads (property_load x o p s) = o ∷ []
reads (computed_store x o p v s) = o ∷ p ∷ v ∷ []
reads (computed_load x o p s) = o ∷ p ∷ []
reads (load_global x b s) = []
reads (template x ys qs s) = ys
reads (prefix_update x p o y s) = y ∷ []
reads (postfix_update x p o y s) = y ∷ []
reads (start_memoize x m ds i s) = memo_reads ds
reads (opaque k ys xs) = ys

-- the identifier that the instruction is for comes first
abbrev pub writes : Instruction → List ℕ
writes (load_local x y s) = x ∷ []
writes (store_local x p k y s) = x ∷ p ∷ []
writes (primitive x l s) = x ∷ []
writes (binary x o y z s) = x ∷ []
writes (unary x o y s) = x ∷ []
writes (property_store x o p v s) = x ∷ []
writes (property_load x o p s) = x ∷ []
writes (computed_store x o p v s) = x ∷ []
writes (computed_load x o p s) = x ∷ []
writes (load_global x b s) = x ∷ []
writes (template x ys qs s) = x ∷ []
writes (prefix_update x p o y s) = x ∷ p ∷ []
writes (postfix_update x p o y s) = x ∷ p ∷ []
writes (start_memoize x m ds i s) = x ∷ []
writes (opaque k ys xs) = xs

abbrev pub terminal_reads : Terminal → List ℕ
terminal_reads (unreachable s) = []
terminal_reads (throw x s) = x ∷ []
terminal_reads (return x v s) = x ∷ []
terminal_reads (goto b v s) = []
terminal_reads (if x c a f s) = x ∷ []
terminal_reads (branch x c a f s) = x ∷ []
terminal_reads (switch x cs f s) = x ∷ flat_map (λ c. listed c.test) cs
terminal_reads (do_while l t f s) = []
terminal_reads (while t l f s) = []
terminal_reads (for i t u l f s) = []
terminal_reads (for_of i t l f s) = []
terminal_reads (for_in i l f s) = []
terminal_reads (logical o t f s) = []
terminal_reads (ternary t f s) = []
terminal_reads (optional o t f s) = []
terminal_reads (label b f s) = []
terminal_reads (sequence b f s) = []
terminal_reads (maybe_throw c h s) = []
terminal_reads (try b x h f s) = []
terminal_reads (scope f b i s) = []
terminal_reads (pruned_scope f b i s) = []

-- The outside assigns a Try's binding at the Try; it is no use of it.
abbrev pub terminal_writes : Terminal → List ℕ
terminal_writes (unreachable s) = []
terminal_writes (throw x s) = []
terminal_writes (return x v s) = []
terminal_writes (goto b v s) = []
terminal_writes (if x c a f s) = []
terminal_writes (branch x c a f s) = []
terminal_writes (switch x cs f s) = []
terminal_writes (do_while l t f s) = []
terminal_writes (while t l f s) = []
terminal_writes (for i t u l f s) = []
terminal_writes (for_of i t l f s) = []
terminal_writes (for_in i l f s) = []
terminal_writes (logical o t f s) = []
terminal_writes (ternary t f s) = []
terminal_writes (optional o t f s) = []
terminal_writes (label b f s) = []
terminal_writes (sequence b f s) = []
terminal_writes (maybe_throw c h s) = []
terminal_writes (try b x h f s) = listed x
terminal_writes (scope f b i s) = []
terminal_writes (pruned_scope f b i s) = []

-- ---- blocks

-- where control can go on
abbrev pub successors : Terminal → List ℕ
successors (unreachable s) = []
successors (throw x s) = []
successors (return x v s) = []
successors (goto b v s) = b ∷ []
successors (if x c a f s) = c ∷ a ∷ []
successors (branch x c a f s) = c ∷ a ∷ []
successors (switch x cs f s) = map (λ c. c.block) cs
successors (do_while l t f s) = l ∷ []
successors (while t l f s) = t ∷ []
successors (for i t u l f s) = i ∷ []
successors (for_of i t l f s) = i ∷ []
successors (for_in i l f s) = i ∷ []
successors (logical o t f s) = t ∷ []
successors (ternary t f s) = t ∷ []
successors (optional o t f s) = t ∷ []
successors (label b f s) = b ∷ []
successors (sequence b f s) = b ∷ []
successors (maybe_throw c h s) = c ∷ listed h
successors (try b x h f s) = b ∷ []
successors (scope f b i s) = b ∷ []
successors (pruned_scope f b i s) = b ∷ []

-- every block that a terminal names, be it a successor or not
abbrev pub blocks_named : Terminal → List ℕ
blocks_named (unreachable s) = []
blocks_named (throw x s) = []
blocks_named (return x v s) = []
blocks_named (goto b v s) = b ∷ []
blocks_named (if x c a f s) = c ∷ a ∷ f ∷ []
blocks_named (branch x c a f s) = c ∷ a ∷ f ∷ []
blocks_named (switch x cs f s) = map (λ c. c.block) cs ++ f ∷ []
blocks_named (do_while l t f s) = l ∷ t ∷ f ∷ []
blocks_named (while t l f s) = t ∷ l ∷ f ∷ []
blocks_named (for i t u l f s) = i ∷ t ∷ listed u ++ l ∷ f ∷ []
blocks_named (for_of i t l f s) = i ∷ t ∷ l ∷ f ∷ []
blocks_named (for_in i l f s) = i ∷ l ∷ f ∷ []
blocks_named (logical o t f s) = t ∷ f ∷ []
blocks_named (ternary t f s) = t ∷ f ∷ []
blocks_named (optional o t f s) = t ∷ f ∷ []
blocks_named (label b f s) = b ∷ f ∷ []
blocks_named (sequence b f s) = b ∷ f ∷ []
blocks_named (maybe_throw c h s) = c ∷ listed h
blocks_named (try b x h f s) = b ∷ h ∷ f ∷ []
blocks_named (scope f b i s) = f ∷ b ∷ []
blocks_named (pruned_scope f b i s) = f ∷ b ∷ []

-- ---- texts

abbrev pub literal_texts : Literal → List ℕ
literal_texts null = []
literal_texts undefined = []
literal_texts (boolean b) = []
literal_texts (number x) = []
literal_texts (text t) = t ∷ []

abbrev pub property_texts : Property → List ℕ
property_texts (name t) = t ∷ []
property_texts (index x) = []

abbrev pub binding_name : Binding → ℕ
binding_name (import_default n m) = n
binding_name (import_specifier n m i) = n
binding_name (import_namespace n m) = n
binding_name (module_local n) = n
binding_name (global n) = n

abbrev pub binding_texts : Binding → List ℕ
binding_texts (import_default n m) = n ∷ m ∷ []
binding_texts (import_specifier n m i) = n ∷ m ∷ i ∷ []
binding_texts (import_namespace n m) = n ∷ m ∷ []
binding_texts (module_local n) = n ∷ []
binding_texts (global n) = n ∷ []

abbrev pub dependency_texts : Dependency → List ℕ
dependency_texts (named_local x c) = []
dependency_texts (global_name t) = t ∷ []

abbrev pub memo_texts : Option (List Dependency) → List ℕ
memo_texts None = []
memo_texts (Some ds) = flat_map dependency_texts ds

-- every text that an instruction names
abbrev pub texts_named : Instruction → List ℕ
texts_named (load_local x y s) = []
texts_named (store_local x p k y s) = []
texts_named (primitive x l s) = literal_texts l
texts_named (binary x o y z s) = []
texts_named (unary x o y s) = []
texts_named (property_store x o p v s) = property_texts p
texts_named (property_load x o p s) = property_texts p
texts_named (computed_store x o p v s) = []
texts_named (computed_load x o p s) = []
texts_named (load_global x b s) = binding_texts b
texts_named (template x ys qs s) = flat_map (λ q. q.raw ∷ listed q.cooked) qs
texts_named (prefix_update x p o y s) = []
texts_named (postfix_update x p o y s) = []
texts_named (start_memoize x m ds i s) = memo_texts ds
texts_named (opaque k ys xs) = []

-- ---- numbers

abbrev pub literal_numbers : Literal → List Float
literal_numbers null = []
literal_numbers undefined = []
literal_numbers (boolean b) = []
literal_numbers (number x) = x ∷ []
literal_numbers (text t) = []

abbrev pub property_numbers : Property → List Float
property_numbers (name t) = []
property_numbers (index x) = x ∷ []

-- every Number that an instruction holds
abbrev pub numbers_held : Instruction → List Float
numbers_held (load_local x y s) = []
numbers_held (store_local x p k y s) = []
numbers_held (primitive x l s) = literal_numbers l
numbers_held (binary x o y z s) = []
numbers_held (unary x o y s) = []
numbers_held (property_store x o p v s) = property_numbers p
numbers_held (property_load x o p s) = property_numbers p
numbers_held (computed_store x o p v s) = []
numbers_held (computed_load x o p s) = []
numbers_held (load_global x b s) = []
numbers_held (template x ys qs s) = []
numbers_held (prefix_update x p o y s) = []
numbers_held (postfix_update x p o y s) = []
numbers_held (start_memoize x m ds i s) = []
numbers_held (opaque k ys xs) = []
