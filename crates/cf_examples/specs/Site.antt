-- A site of files and records, with parameters, a mapping, a condition and an exported output; another stack imports its
-- value, and neither may go before what needs it. (Its numbers are written as texts: how a number is read does not compute.) This
-- project's own.
use Rattle.std.specs.Prelude.{◌≡◌, List, [], ◌∷◌, ◌++◌, codes, Some, false}
use Rattle.cf_tree.specs.declared.request.Request.TheVariants as request
use Rattle.cf_tree.specs.declared.source.Source.{Source}
use Rattle.cf_entry.specs.declared.entry.Entry.{Entry}
use Rattle.cf_entry.specs.declared.entry.Entry.TheVariants as entry
use Rattle.cf_entry.specs.declared.entry.Begun.TheVariants as begin
use Rattle.cf_entry.specs.declared.entry.Reply.TheVariants as reply
use Rattle.cf_entry.specs.declared.status.Status.TheVariants as status
use Rattle.cf_entry.specs.declared.turn.Why.TheVariants as why
use Rattle.cf_effect.specs.declared.held.HeldStatus.TheVariants as held
use Rattle.cf_effect.specs.World.{empty_world}
use Rattle.cf_effect.specs.Fold.{fold_of}
use Rattle.cf_plan.specs.Follow.{IsLegal}
use Rattle.cf_examples.specs.Given.{file, note, file_props, file_attrs, note_props, note_attrs, schemas, source_of, lane_pair, report_of, bare, IsRefusedAfter}

abbrev pub real : Source
real =
    record (source_of (codes "site") (codes "real")
    (codes "{\"AWSTemplateFormatVersion\":\"2010-09-09\",\"Description\":\"A small site\",\"Parameters\":{"
    ++ codes "\"Stage\":{\"Type\":\"String\",\"Default\":\"test\",\"AllowedValues\":[\"test\",\"prod\"]},"
    ++ codes "\"Hosts\":{\"Type\":\"CommaDelimitedList\",\"Default\":\"alpha, beta\"}},\"Mappings\":{\"Sizes\":{"
    ++ codes "\"test\":{\"Depth\":\"2\"},\"prod\":{\"Depth\":\"8\"}}},\"Conditions\":{\"IsProd\":{\"Fn::Equals\":[{"
    ++ codes "\"Ref\":\"Stage\"},\"prod\"]}},\"Resources\":{\"Conf\":{\"Type\":\"Local::Files::File\",\"Properties\":{"
    ++ codes "\"Path\":{\"Fn::Sub\":\"${AWS::StackName}.conf\"},\"Content\":{\"Fn::Join\":[\"\\n\",[{\"Fn::Sub\":\"stage=${"
    ++ codes "Stage}\"},{\"Fn::Sub\":[\"depth=${D}\",{\"D\":{\"Fn::FindInMap\":[\"Sizes\",{\"Ref\":\"Stage\"},"
    ++ codes "\"Depth\"]}}]}]]}}},\"Home\":{\"Type\":\"Local::Files::File\",\"DependsOn\":\"Conf\",\"Properties\":{"
    ++ codes "\"Path\":\"home.txt\",\"Content\":{\"Fn::Select\":[\"1\",{\"Ref\":\"Hosts\"}]}}},\"Audit\":{"
    ++ codes "\"Type\":\"Local::Files::File\",\"Condition\":\"IsProd\",\"DeletionPolicy\":\"Retain\",\"Properties\":{"
    ++ codes "\"Path\":\"audit.txt\",\"Content\":\"on\"}},\"Main\":{\"Type\":\"Local::Records::Record\","
    ++ codes "\"Properties\":{\"Key\":\"main\",\"Value\":{\"Ref\":\"Conf\"}}},\"Size\":{\"Type\":\"Local::Records::Record\","
    ++ codes "\"Properties\":{\"Key\":\"size\",\"Value\":{\"Fn::Sub\":\"${Conf.Length}/${Home.Length}\"}}}},"
    ++ codes "\"Outputs\":{\"Total\":{\"Value\":{\"Fn::GetAtt\":[\"Size\",\"Value\"]},\"Export\":{\"Name\":{"
    ++ codes "\"Fn::Sub\":\"${AWS::StackName}-total\"}}}}}")) { given = (codes "Stage", codes "prod") ∷ [] }

abbrev pub importing : Source
importing =
    record (source_of (codes "user") (codes "user")
    (codes "{\"Resources\":{\"Use\":{\"Type\":\"Local::Records::Record\",\"Properties\":{\"Key\":\"u\","
    ++ codes "\"Value\":{\"Fn::ImportValue\":\"site-total\"}}}}}")) { imports = (codes "site-total", codes "18/4") ∷ [] }

abbrev pub opened : Entry
opened = entry.Opened 1 (lane_pair (codes "f1") file ∷ lane_pair (codes "r1") note ∷ [])

abbrev pub begun : Entry
begun = entry.Begin 1 (codes "site") (begin.Create real)

abbrev pub intended_audit : Entry
intended_audit = entry.Intent 1 1 (codes "f1") (codes "Audit") (request.Create file (file_props (codes "audit.txt") (codes "on")))

abbrev pub made_audit : Entry
made_audit = entry.Outcome 1 1 (reply.Success (codes "f1:1") (file_attrs (codes "f1:1") 2 (codes "audit.txt") (codes "on"))) 0 0

abbrev pub intended_conf : Entry
intended_conf =
    entry.Intent 1 2 (codes "f1") (codes "Conf") (request.Create file (file_props (codes "site.conf") (codes "stage=prod\ndepth=8")))

abbrev pub made_conf : Entry
made_conf =
    entry.Outcome 1 2 (reply.Success (codes "f1:2") (file_attrs (codes "f1:2") 18 (codes "site.conf") (codes "stage=prod\ndepth=8"))) 0 0

abbrev pub intended_home : Entry
intended_home = entry.Intent 1 3 (codes "f1") (codes "Home") (request.Create file (file_props (codes "home.txt") (codes "beta")))

abbrev pub made_home : Entry
made_home = entry.Outcome 1 3 (reply.Success (codes "f1:3") (file_attrs (codes "f1:3") 4 (codes "home.txt") (codes "beta"))) 0 0

abbrev pub intended_main : Entry
intended_main = entry.Intent 1 4 (codes "r1") (codes "Main") (request.Create note (note_props (codes "main") (codes "f1:2")))

abbrev pub made_main : Entry
made_main = entry.Outcome 1 4 (reply.Success (codes "r1:4") (note_attrs (codes "r1:4") 4 (codes "main") (codes "f1:2"))) 0 0

abbrev pub intended_size : Entry
intended_size = entry.Intent 1 5 (codes "r1") (codes "Size") (request.Create note (note_props (codes "size") (codes "18/4")))

abbrev pub made_size : Entry
made_size = entry.Outcome 1 5 (reply.Success (codes "r1:5") (note_attrs (codes "r1:5") 4 (codes "size") (codes "18/4"))) 0 0

abbrev pub created : Entry
created = entry.Done 1 status.CreateComplete []

abbrev pub begun_user : Entry
begun_user = entry.Begin 2 (codes "user") (begin.Create importing)

abbrev pub intended_use : Entry
intended_use = entry.Intent 2 6 (codes "r1") (codes "Use") (request.Create note (note_props (codes "u") (codes "18/4")))

abbrev pub made_use : Entry
made_use = entry.Outcome 2 6 (reply.Success (codes "r1:6") (note_attrs (codes "r1:6") 4 (codes "u") (codes "18/4"))) 0 0

abbrev pub created_user : Entry
created_user = entry.Done 2 status.CreateComplete []

abbrev pub deleting_user : Entry
deleting_user = entry.Begin 3 (codes "user") (begin.Delete [])

abbrev pub intended_use_gone : Entry
intended_use_gone = entry.Intent 3 7 (codes "r1") (codes "Use") (request.Delete (codes "r1:6"))

abbrev pub use_gone : Entry
use_gone = entry.Outcome 3 7 (reply.Success (codes "r1:6") []) 0 0

abbrev pub user_gone : Entry
user_gone = entry.Done 3 status.DeleteComplete []

abbrev pub deleting_site : Entry
deleting_site = entry.Begin 4 (codes "site") (begin.Delete [])

abbrev pub kept_audit : Entry
kept_audit = entry.Kept 4 (codes "Audit") (codes "f1:1") why.Retained

abbrev pub intended_main_gone : Entry
intended_main_gone = entry.Intent 4 8 (codes "r1") (codes "Main") (request.Delete (codes "r1:4"))

abbrev pub main_gone : Entry
main_gone = entry.Outcome 4 8 (reply.Success (codes "r1:4") []) 0 0

abbrev pub intended_size_gone : Entry
intended_size_gone = entry.Intent 4 9 (codes "r1") (codes "Size") (request.Delete (codes "r1:5"))

abbrev pub size_gone : Entry
size_gone = entry.Outcome 4 9 (reply.Success (codes "r1:5") []) 0 0

abbrev pub intended_home_gone : Entry
intended_home_gone = entry.Intent 4 10 (codes "f1") (codes "Home") (request.Delete (codes "f1:3"))

abbrev pub home_gone : Entry
home_gone = entry.Outcome 4 10 (reply.Success (codes "f1:3") []) 0 0

abbrev pub intended_conf_gone : Entry
intended_conf_gone = entry.Intent 4 11 (codes "f1") (codes "Conf") (request.Delete (codes "f1:2"))

abbrev pub conf_gone : Entry
conf_gone = entry.Outcome 4 11 (reply.Success (codes "f1:2") []) 0 0

abbrev pub site_gone : Entry
site_gone = entry.Done 4 status.DeleteComplete []

abbrev pub until_made : List Entry
until_made =
    opened ∷ begun ∷ intended_audit ∷ made_audit ∷ intended_conf ∷ made_conf ∷ intended_home ∷ made_home ∷ intended_main ∷ made_main
    ∷ intended_size ∷ made_size ∷ created ∷ []

abbrev pub until_used : List Entry
until_used = until_made ++ begun_user ∷ intended_use ∷ made_use ∷ created_user ∷ []

abbrev pub until_going : List Entry
until_going = until_used ++ deleting_user ∷ intended_use_gone ∷ use_gone ∷ user_gone ∷ deleting_site ∷ kept_audit ∷ []

abbrev pub run : List Entry
run =
    until_going ++ intended_main_gone ∷ main_gone ∷ intended_size_gone ∷ size_gone ∷ intended_home_gone ∷ home_gone ∷ intended_conf_gone
    ∷ conf_gone ∷ site_gone ∷ []

-- each entry may follow where it stands
abbrev pub Legal : Type 0
Legal = IsLegal schemas empty_world run

-- what the reports show once the site is made, and the stack that uses it
abbrev pub ShowsSite : Type 0
ShowsSite =
    report_of (codes "site") (fold_of empty_world until_made) ≡ record
    (bare status.CreateComplete 1) {
      resources = record {
        path = codes "Audit";
        kind = file;
        physical = codes "f1:1";
        status = held.CreateComplete;
        unsure = false;
        props = (file_props (codes "audit.txt") (codes "on"));
      }
          ∷ record {
            path = codes "Conf";
            kind = file;
            physical = codes "f1:2";
            status = held.CreateComplete;
            unsure = false;
            props = (file_props (codes "site.conf") (codes "stage=prod\ndepth=8"));
          }
          ∷ record {
            path = codes "Home";
            kind = file;
            physical = codes "f1:3";
            status = held.CreateComplete;
            unsure = false;
            props = (file_props (codes "home.txt") (codes "beta"));
          }
          ∷ record {
            path = codes "Main";
            kind = note;
            physical = codes "r1:4";
            status = held.CreateComplete;
            unsure = false;
            props = (note_props (codes "main") (codes "f1:2"));
          }
          ∷ record {
            path = codes "Size";
            kind = note;
            physical = codes "r1:5";
            status = held.CreateComplete;
            unsure = false;
            props = (note_props (codes "size") (codes "18/4"));
          } ∷ [];
      outputs = record { name = codes "Total"; value = codes "18/4"; export = Some (codes "site-total") } ∷ [];
      exports = (codes "site-total", codes "18/4") ∷ [];
      given = (codes "Stage", codes "prod") ∷ [];
    }

abbrev pub ShowsUser : Type 0
ShowsUser =
    report_of (codes "user") (fold_of empty_world until_used) ≡ record
    (bare status.CreateComplete 2) {
      resources = record {
        path = codes "Use";
        kind = note;
        physical = codes "r1:6";
        status = held.CreateComplete;
        unsure = false;
        props = (note_props (codes "u") (codes "18/4"));
      } ∷ [];
      pins = codes "site-total" ∷ [];
    }

-- and in the end
abbrev pub ShowsSiteGone : Type 0
ShowsSiteGone =
    report_of (codes "site") (fold_of empty_world run) ≡ record
    (bare status.DeleteComplete 1) { leftovers = record { path = codes "Audit"; physical = codes "f1:1"; why = why.Retained } ∷ [] }

abbrev pub ShowsUserGone : Type 0
ShowsUserGone = report_of (codes "user") (fold_of empty_world run) ≡ bare status.DeleteComplete 2

-- The site may not be deleted while its value is imported.
abbrev pub DeletedWhileUsed : Type 0
DeletedWhileUsed = IsRefusedAfter until_used (entry.Begin 3 (codes "site") (begin.Delete []))

-- What others need may not be deleted before them.
abbrev pub NeededDeletedFirst : Type 0
NeededDeletedFirst = IsRefusedAfter until_going (entry.Intent 4 8 (codes "f1") (codes "Home") (request.Delete (codes "f1:3")))

-- What is retained may not be deleted.
abbrev pub RetainedDeleted : Type 0
RetainedDeleted =
    IsRefusedAfter (until_used ++ deleting_user ∷ intended_use_gone ∷ use_gone ∷ user_gone ∷ deleting_site ∷ [])
    (entry.Intent 4 8 (codes "f1") (codes "Audit") (request.Delete (codes "f1:1")))
