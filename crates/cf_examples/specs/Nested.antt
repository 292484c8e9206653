-- A nested stack gets the length of a file of the stack around it as its parameter (this project's own).
use Rattle.std.specs.Prelude.{option_map, Some, ◌≡◌, List, [], ◌∷◌, codes, false, map, ◌++◌}
use Rattle.cf_tree.specs.declared.request.Request.TheVariants as request
use Rattle.cf_tree.specs.declared.source.Source.{Source}
use Rattle.cf_entry.specs.declared.entry.Entry.{Entry}
use Rattle.cf_entry.specs.declared.entry.Entry.TheVariants as entry
use Rattle.cf_entry.specs.declared.entry.Begun.TheVariants as begin
use Rattle.cf_entry.specs.declared.entry.Reply.TheVariants as reply
use Rattle.cf_entry.specs.declared.status.Status.TheVariants as status
use Rattle.cf_effect.specs.declared.held.HeldStatus.TheVariants as held
use Rattle.cf_effect.specs.World.{empty_world}
use Rattle.cf_effect.specs.Fold.{fold_of}
use Rattle.cf_plan.specs.Follow.{IsLegal}
use Rattle.cf_eval.specs.declared.fault.EvalWhy.TheVariants.{UnknownAttribute}
use Rattle.cf_desired.specs.declared.flaw.Flaw.TheVariants as flaw
use Rattle.cf_desired.specs.declared.wanted.Evaluated.TheVariants.{Flawed as flawed}
use Rattle.cf_desired.specs.Seeing.{Seen}
use Rattle.cf_desired.specs.Plan.{plan_of}
use Rattle.cf_desired.specs.Whole.{wanted_at}
use Rattle.cf_desired.specs.FlawText.{flaw_text}
use Rattle.cf_examples.specs.Given.{file, note, file_props, file_attrs, note_props, note_attrs, schemas, lane_pair, report_of, bare, IsRefusedAfter}

abbrev pub first : Source
first =
    record {
      root = (codes "root");
      texts = ((
        (codes "kid"),
        (codes "{\"Parameters\":{\"P\":{\"Type\":\"String\"}},\"Resources\":{\"Rec\":{\"Type\":\"Local::Records::Record\","
            ++ codes "\"Properties\":{\"Key\":\"k\",\"Value\":{\"Ref\":\"P\"}}}}}"),
      )
          ∷ (
            (codes "root"),
            (codes "{\"Resources\":{\"Src\":{\"Type\":\"Local::Files::File\",\"Properties\":{\"Path\":\"s\",\"Content\":\"12\"}},"
                ++ codes "\"Child\":{\"Type\":\"AWS::CloudFormation::Stack\",\"Properties\":{\"TemplateURL\":\"kid\",\"Parameters\":{"
                ++ codes "\"P\":{\"Fn::GetAtt\":[\"Src\",\"Length\"]}}}}}}"),
          )
          ∷ []);
      given = [];
      imports = [];
      stack = (codes "top");
      number = 0;
    }

abbrev pub opened : Entry
opened = entry.Opened 1 (lane_pair (codes "f1") file ∷ lane_pair (codes "r1") note ∷ [])

abbrev pub begun : Entry
begun = entry.Begin 1 (codes "top") (begin.Create first)

abbrev pub intended_file : Entry
intended_file = entry.Intent 1 1 (codes "f1") (codes "Src") (request.Create file (file_props (codes "s") (codes "12")))

abbrev pub made_file : Entry
made_file = entry.Outcome 1 1 (reply.Success (codes "f1:1") (file_attrs (codes "f1:1") 2 (codes "s") (codes "12"))) 0 0

abbrev pub intended_record : Entry
intended_record = entry.Intent 1 2 (codes "r1") (codes "Child/Rec") (request.Create note (note_props (codes "k") (codes "2")))

abbrev pub made_record : Entry
made_record = entry.Outcome 1 2 (reply.Success (codes "r1:2") (note_attrs (codes "r1:2") 1 (codes "k") (codes "2"))) 0 0

abbrev pub created : Entry
created = entry.Done 1 status.CreateComplete []

abbrev pub run : List Entry
run = opened ∷ begun ∷ intended_file ∷ made_file ∷ intended_record ∷ made_record ∷ created ∷ []

-- each entry may follow where it stands
abbrev pub Legal : Type 0
Legal = IsLegal schemas empty_world run

-- what the report shows in the end
abbrev pub Shows : Type 0
Shows =
    report_of (codes "top") (fold_of empty_world run)
    ≡ record (bare status.CreateComplete 1) {
      resources = record {
        path = (codes "Child/Rec");
        kind = note;
        physical = (codes "r1:2");
        status = held.CreateComplete;
        unsure = false;
        props = (note_props (codes "k") (codes "2"));
      }
          ∷ record {
            path = (codes "Src");
            kind = file;
            physical = (codes "f1:1");
            status = held.CreateComplete;
            unsure = false;
            props = (file_props (codes "s") (codes "12"));
          } ∷ [];
    }

-- Of two nested outputs that are at fault, a resource that refers to both has the fault of the one that it names first.
abbrev pub two_faults : Source
two_faults = record {
  root = (codes "root");
  texts =
      ((
        (codes "kid"),
        (codes "{\"Resources\":{\"Rec\":{\"Type\":\"Local::Records::Record\",\"Properties\":{\"Key\":\"k\",\"Value\":\"v\"}}},"
            ++ codes "\"Outputs\":{\"A\":{\"Value\":{\"Fn::Select\":[\"7\",[\"x\"]]}},\"B\":{\"Value\":{\"Fn::GetAtt\":[\"Rec\","
            ++ codes "\"Nope\"]}}}}"),
      )
      ∷ (
        (codes "root"),
        (codes "{\"Resources\":{\"Child\":{\"Type\":\"AWS::CloudFormation::Stack\",\"Properties\":{\"TemplateURL\":\"kid\"}},"
            ++ codes "\"Src\":{\"Type\":\"Local::Files::File\",\"Properties\":{\"Path\":\"s\",\"Content\":{\"Fn::Sub\":\"${"
            ++ codes "Child.Outputs.B}${Child.Outputs.A}\"}}}}}"),
      )
      ∷ []);
  given = [];
  imports = [];
  stack = (codes "top");
  number = 0;
}

abbrev pub record_seen : Seen
record_seen =
    (codes "Child/Rec", record { physical = Some (codes "r1:1"); attrs = Some (note_attrs (codes "r1:1") 1 (codes "k") (codes "v")) }) ∷ []

abbrev pub FirstNamedIsTold : Type 0
FirstNamedIsTold =
    option_map (λ w. w.props) (wanted_at (codes "Src") (plan_of two_faults record_seen)) ≡ Some
    (flawed (flaw.Eval UnknownAttribute (codes "Child") (codes "/Outputs/B/Value")))

-- A condition of a nested stack may not rest on what is known only while the stack is made.
abbrev pub conditional : Source
conditional = record {
  root = codes "root";
  texts = (
    codes "kid",
    codes "{\"Parameters\":{\"P\":{\"Type\":\"String\"}},\"Conditions\":{\"C\":{\"Fn::Equals\":[{\"Ref\":\"P\"},"
        ++ codes "\"2\"]}},\"Resources\":{\"Rec\":{\"Type\":\"Local::Records::Record\",\"Properties\":{\"Key\":\"k\","
        ++ codes "\"Value\":{\"Ref\":\"P\"}}}}}",
  )
      ∷ (
        codes "root",
        codes "{\"Resources\":{\"Src\":{\"Type\":\"Local::Files::File\",\"Properties\":{\"Path\":\"s\",\"Content\":\"12\"}},"
            ++ codes "\"Child\":{\"Type\":\"AWS::CloudFormation::Stack\",\"Properties\":{\"TemplateURL\":\"kid\",\"Parameters\":{"
            ++ codes "\"P\":{\"Fn::GetAtt\":[\"Src\",\"Length\"]}}}}}}",
      )
      ∷ [];
  given = [];
  imports = [];
  stack = codes "top";
  number = 0;
}

-- its only flaw, with its text
abbrev pub FlawIsTold : Type 0
FlawIsTold = map flaw_text (plan_of conditional []).flaws ≡ codes "DynamicCondition \"Child\" \"C\"" ∷ []

abbrev pub ConditionalIsRefused : Type 0
ConditionalIsRefused = IsRefusedAfter (opened ∷ []) (entry.Begin 1 (codes "top") (begin.Create conditional))

-- A stack that nests itself is too deep at the ninth level.
abbrev pub self : Source
self = record {
  root = codes "self";
  texts = (
    codes "self",
    codes "{\"Resources\":{\"Child\":{\"Type\":\"AWS::CloudFormation::Stack\",\"Properties\":{\"TemplateURL\":\"self\"}}}}",
  ) ∷ [];
  given = [];
  imports = [];
  stack = codes "top";
  number = 0;
}

abbrev pub TooDeepIsTold : Type 0
TooDeepIsTold =
    map flaw_text (plan_of self []).flaws ≡ codes "TooDeep \"Child/Child/Child/Child/Child/Child/Child/Child\"" ∷ []
