-- The names of stacks and of paths, and the pseudo parameters (template reference, pseudo parameters; their values and the
-- names of nested stacks are this project's own).
use Rattle.std.specs.Prelude.{ℕ, List, [], ◌∷◌, ◌++◌, codes, decimal}
use Rattle.cf_tree.specs.Datum.{Data, text, list, no_items}
-- a resource's path
pub use Rattle.cf_eval.specs.Sights.{path_in}

-- a nested stack's name: the name of the stack around it, a hyphen and its logical id
abbrev pub name_in : List ℕ → List ℕ → List ℕ
name_in stack id = stack ++ codes "-" ++ id

-- a stack id: the stack's name, and the number of the operation that created the root stack
abbrev pub stack_id : List ℕ → ℕ → List ℕ
stack_id name number = codes "arn:aws:cloudformation:us-east-1:123456789012:stack/" ++ name ++ codes "/" ++ decimal number

abbrev pub pseudo_of : List ℕ → ℕ → List (List ℕ × Data)
pseudo_of name number =
    (codes "AWS::AccountId", text (codes "123456789012")) ∷ (codes "AWS::NotificationARNs", list no_items)
    ∷ (codes "AWS::Partition", text (codes "aws")) ∷ (codes "AWS::Region", text (codes "us-east-1"))
    ∷ (codes "AWS::StackId", text (stack_id name number)) ∷ (codes "AWS::StackName", text name)
    ∷ (codes "AWS::URLSuffix", text (codes "amazonaws.com")) ∷ []
