-- Where fields are, and the kinds of values that fields must have.

-- where a field is: in a command, or in an entry of its list
pub data FieldPlace : Type 0 where
  command : FieldPlace
  entry : FieldPlace

-- the kind of value that a field must have
pub data Kind : Type 0 where
  anything : Kind
  text : Kind
  boolean : Kind
  document : Kind
  -- an array of documents
  documents : Kind
  array : Kind
  -- an int32 or int64
  integer : Kind
  -- an array of int32 and int64
  integers : Kind
  -- an int32 or int64 that isn't negative
  natural : Kind
  -- how many documents a statement deletes: 0 for all matches, 1 for the first
  how_many : Kind
  -- an update: a document; an array, which would be a pipeline, is refused with 9
  update : Kind
  -- a boolean that is false; true is refused with 9
  only_false : Kind
  -- an empty document; any other value is refused with 9
  empty_document : Kind
  -- a document with at most one field; further fields are refused with 9
  single : Kind
  -- the options of an aggregate's cursor: a document with at most the field `batchSize`
  cursor : Kind
