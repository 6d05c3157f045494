-- ECMA-262, 15th edition (ECMAScript 2024), 16.2.1.5 Cyclic Module Records: Evaluate (16.2.1.5.3) and InnerModuleEvaluation
-- (16.2.1.5.3.1), over n modules and the modules that each requests. Executable, by fuel. Numbers in comments are the standard's steps.
--
-- Steps of InnerModuleEvaluation that are left out:
-- 1: every module is a Cyclic Module Record.
-- 2.b, 11.c.iv.3: [[EvaluationError]] stays EMPTY: no completion is abrupt. The `?` of 11.b and 13.a pass nothing on.
-- 4, 11.c.i, 11.c.ii, 14, 15, 16.b.iii: assertions, which change nothing; 11.c.ii, 14 and 15 are theorems.
-- 8, 11.c.v, 12, 16.b.v: no module has top-level await, so that [[PendingAsyncDependencies]] stays 0 and [[AsyncEvaluation]] false.
-- 11.a: a requested module stands for what GetImportedModule gives.
-- 11.c.iv.1, 11.c.iv.2, 16.b.vii: [[CycleRoot]] is only asked for errors and for await.
-- 16.a: `done` is whether the loop goes on.
-- Steps of Evaluate that are left out:
-- 1, 2: assertions. 3: [[CycleRoot]]; the module is LINKED. 4, 6, 7, 11: the promise. 9: no completion is abrupt.
-- 10: assertions, and the promise; that the module is EVALUATED and the stack empty (10.a, 10.d) is a theorem.
-- Assumes nothing.
use Rattle.std.specs.Prelude.{true, false, ℕ, zero, suc, ◌+◌, min, get_or, set, replicate, eqb}
use mathlib.Core.List.{List, [], ◌∷◌, ◌++◌, foldl}

-- [[Status]]: what comes before LINKED is past, and EVALUATING-ASYNC is for top-level await
pub data Status : Type 0 where
  linked evaluating evaluated : Status

-- a Cyclic Module Record: [[Status]], [[DFSIndex]], [[DFSAncestorIndex]]
pub record Module : Type 0 where
  pub status : Status
  pub dfs_index : ℕ
  pub dfs_ancestor_index : ℕ

-- the module records; `stack`, its last element first; `index`, which every call takes and returns; the modules executed so far, in order
pub record State : Type 0 where
  pub modules : List Module
  pub stack : List ℕ
  pub index : ℕ
  pub executed : List ℕ

-- before evaluation: LINKED, and both indices EMPTY, for which 0 stands; nothing reads them before steps 6 and 7
abbrev pub linked_module : Module
linked_module = record { status = linked; dfs_index = 0; dfs_ancestor_index = 0 }

-- what is read of a number that is no module, which is passed over as an EVALUATED one is
abbrev pub no_module : Module
no_module = record { status = evaluated; dfs_index = 0; dfs_ancestor_index = 0 }

abbrev pub module_at : State → ℕ → Module
module_at st m = get_or st.modules m no_module

abbrev pub store : ℕ → Module → State → State
store m now st = record { modules = set st.modules m now; stack = st.stack; index = st.index; executed = st.executed }

-- 5. Set module.[[Status]] to EVALUATING.
-- 6. Set module.[[DFSIndex]] to index.
-- 7. Set module.[[DFSAncestorIndex]] to index.
-- 9. Set index to index + 1.
-- 10. Append module to stack.
abbrev pub begin : ℕ → State → State
begin m st = record {
  modules = set st.modules m (record { status = evaluating; dfs_index = st.index; dfs_ancestor_index = st.index });
  stack = m ∷ st.stack;
  index = st.index + 1;
  executed = st.executed;
}

-- 11.c.iii.1. Set module.[[DFSAncestorIndex]] to min(module.[[DFSAncestorIndex]], required_module.[[DFSAncestorIndex]]).
abbrev pub lowered : Module → Module → Module
lowered module₀ required = record {
  status = module₀.status;
  dfs_index = module₀.dfs_index;
  dfs_ancestor_index = min module₀.dfs_ancestor_index required.dfs_ancestor_index;
}

-- 11.c.iii. If required_module.[[Status]] is EVALUATING, then 11.c.iii.1. 11.c.iv. Else, nothing.
abbrev pub lower : ℕ → ℕ → State → State
lower m required st = elim (module_at st required).status [
  | linked ↦ st
  | evaluating ↦ store m (lowered (module_at st m) (module_at st required)) st
  | evaluated ↦ st
]

-- 13.a. Perform ? module.ExecuteModule().
abbrev pub execute : ℕ → State → State
execute m st = record { modules = st.modules; stack = st.stack; index = st.index; executed = st.executed ++ (m ∷ []) }

-- 16.b.iv. .. set required_module.[[Status]] to EVALUATED.
abbrev pub settled : Module → Module
settled required = record { status = evaluated; dfs_index = required.dfs_index; dfs_ancestor_index = required.dfs_ancestor_index }

-- 16.b.i. Let required_module be the last element of stack. 16.b.ii. Remove the last element of stack. 16.b.iv, as above.
abbrev pub remove : ℕ → List ℕ → State → State
remove required rest st = record {
  modules = set st.modules required (settled (module_at st required));
  stack = rest;
  index = st.index;
  executed = st.executed;
}

-- 16.b. Repeat, while done is false: 16.b.i, 16.b.ii, 16.b.iv; 16.b.vi. If required_module and module are the same .., set done to true.
unfoldable pub pop : ℕ → List ℕ → State → State
pop m [] st = st
pop m (required ∷ rest) st = elim (eqb required m) [ true ↦ remove required rest st | false ↦ pop m rest (remove required rest st) ]

-- 16. If module.[[DFSAncestorIndex]] = module.[[DFSIndex]], then 16.b.
abbrev pub finish : ℕ → State → State
finish m st = elim (eqb (module_at st m).dfs_ancestor_index (module_at st m).dfs_index) [ true ↦ pop m st.stack st | false ↦ st ]

-- 11.b. Set index to ? InnerModuleEvaluation(required_module, stack, index). 11.c, above.
abbrev pub require : (State → ℕ → State) → ℕ → State → ℕ → State
require inner m st required = lower m required (inner st required)

module _ (requested : ℕ → List ℕ) where
  -- InnerModuleEvaluation(module, stack, index)
  -- 2.a. If [[Status]] is EVALUATED, return index. 3. If it is EVALUATING, return index. 4. It is LINKED, and 5 to 10, above.
  -- 11. For each requested module, in order, 11.b and 11.c. 13.a and 16, above. 17. Return index.
  unfoldable pub inner_module_evaluation : ℕ → State → ℕ → State
  inner_module_evaluation zero st m = st
  inner_module_evaluation (suc k) st m = elim (module_at st m).status [
    | evaluated ↦ st
    | evaluating ↦ st
    | linked ↦ finish m (execute m (foldl (require (inner_module_evaluation k) m) (begin m st) (requested m)))
  ]

-- Evaluate: n modules, each LINKED; 5. Let stack be a new empty List; index is 0, as 8 has it
abbrev pub start : ℕ → State
start n = record { modules = replicate n linked_module; stack = []; index = 0; executed = [] }

-- Evaluate: 8. Let result be Completion(InnerModuleEvaluation(module, stack, 0)), of the module root among n
unfoldable pub evaluate : (ℕ → List ℕ) → ℕ → ℕ → ℕ → State
evaluate requested k n root = inner_module_evaluation requested k (start n) root
